-- Which files are read.
use Rattle.std.specs.Prelude.{◌≡◌, ◌≤◌, ℕ, ◌^◌, List, length, IfSome, ⊤}
use Rattle.std.specs.Fs.{IsDir, IsFile, IsSymlink, file_type, metadata_mode}
use Rattle.std.specs.declared.fs.Metadata.{Metadata}
use Rattle.std.specs.declared.io.ErrorKind.{ErrorKind}
use Rattle.std.specs.declared.io.ErrorKind.TheVariants.{IsADirectory, Unsupported}
use Rattle.file_disk.specs.Known.{Known, kind_under, text_under}
use Rattle.file_disk.specs.declared.found.Found.{Found}
use Rattle.file_disk.specs.declared.found.Found.TheVariants as found

-- It is a regular file. (own)
abbrev pub IsRegular : Found → Type 0
IsRegular found.Nothing = ⊥
IsRegular (found.File mode) = ⊤
IsRegular found.Link = ⊥
IsRegular found.Directory = ⊥
IsRegular found.Special = ⊥

-- It is what the system says of a name: the kind of file, and the permission bits of a regular one. (own)
abbrev pub IsSaid : Metadata → Found → Type 0
IsSaid m found.Nothing = ⊥
IsSaid m (found.File mode) = IsFile (file_type m) × (mode ≡ metadata_mode m)
IsSaid m found.Link = IsSymlink (file_type m)
IsSaid m found.Directory = IsDir (file_type m)
IsSaid m found.Special = (¬ (IsFile (file_type m))) × (¬ (IsSymlink (file_type m))) × (¬ (IsDir (file_type m)))

-- The kind of the error of something that is no regular file. (own)
abbrev pub error_of : Found → ErrorKind
error_of found.Nothing = Unsupported
error_of (found.File mode) = Unsupported
error_of found.Link = Unsupported
error_of found.Directory = IsADirectory
error_of found.Special = Unsupported

-- It may lead to a regular file: it is one, or a link. (own)
abbrev pub MayBeRead : Found → Type 0
MayBeRead found.Nothing = ⊥
MayBeRead (found.File mode) = ⊤
MayBeRead found.Link = ⊤
MayBeRead found.Directory = ⊥
MayBeRead found.Special = ⊥

-- What can be opened to be read whole: there is a regular file or a link under the name, and its text, if it can be read, has
-- at most 64 MiB. (own)
abbrev pub IsOpened : Known → List ℕ → Type 0
IsOpened k name = MayBeRead (kind_under k name) × IfSome (text_under k name) (λ text. length text ≤ 2 ^ 26)
