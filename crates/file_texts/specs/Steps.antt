-- By which steps a text is written to a file.
use Rattle.std.specs.Prelude.{◌≡◌, ◌≢◌, ℕ, List, [], ◌∷◌, ◌++◌, Option, Some, None, ◌/◌, bit_and, bit_or}
use Rattle.file_disk.specs.Clearing.{clearing_now, filling}
use Rattle.file_disk.specs.Known.{Known, Deed, MadeDirectories, Made, Filled, Failed, Renamed, Removed, kind_under, mode_under, with_deeds}
use Rattle.file_disk.specs.declared.found.Found.{Found}
use Rattle.file_disk.specs.declared.found.Found.TheVariants as found
use Rattle.file_texts.specs.Names.{directory_of, temporary}
use Rattle.file_texts.specs.declared.writing.Keeps.{Keeps}
use Rattle.file_texts.specs.declared.writing.Keeps.TheVariants.{Permissions, NoExecution}

-- The bits to execute a file that may be kept. (own)
abbrev pub executable : Keeps → ℕ
executable Permissions = 0o111
executable NoExecution = 0

-- Of the permission bits that the system gave to a new file, those that it has in the place of an
-- old one: all that its owner has, and of the group and of others those that the old file had too.
-- (own)
abbrev pub staying : ℕ → ℕ → ℕ
staying old new = bit_and new (bit_or 0o700 (bit_and old 0o77))

-- The bits to execute a file, for whoever these bits let read it. (own)
abbrev pub of_readers : ℕ → ℕ
of_readers bits = bit_and bits 0o444 / 4

-- The permission bits of a new file in the place of an old one, which had these bits, if the system
-- gave it those: what stays of those, and the old file's bits to execute it, for whoever may read
-- the new one. So the new file gives nobody a right to read or to write that the system didn't
-- give. (own)
abbrev pub mode_for : Keeps → ℕ → ℕ → ℕ
mode_for keeps old new = bit_or (staying old new) (bit_and (bit_and old (executable keeps)) (of_readers (staying old new)))

-- If this is under the name of a file that is to be written, and the system gave these bits to the
-- new file, if they are known, the new file gets these permission bits, or keeps those that the
-- system gave it. A directory, a pipe, a socket and a device are not replaced. (own)
pub data IsMode (keeps : Keeps) (made : Option ℕ) : Found → Option ℕ → Type 0 where
  of_file : (old new : ℕ) → made ≡ Some new
      → IsMode keeps made (found.File old) (Some (mode_for keeps old new))
  of_link : IsMode keeps made found.Link None
  of_nothing : IsMode keeps made found.Nothing None

-- The deeds that put a text under a name, by a new file of this number in the same directory. (own)
abbrev pub writing : List ℕ → Option ℕ → List ℕ → ℕ → List Deed
writing name mode text n = Made (temporary name n) ∷ Filled (temporary name n) mode text ∷ Renamed (temporary name n) name ∷ []

-- The permission bits that the system gives to a new file of this name. (own)
abbrev pub new_mode : Known → List ℕ → Option ℕ
new_mode k name = mode_under (with_deeds k (Made name ∷ [])) name

-- A new file in the directory of the name was made, where there was nothing, got its permission
-- bits and the whole text, and was renamed. Nothing else was done. (own)
pub data IsWritten (k : Known) (keeps : Keeps) (name text : List ℕ) : List Deed → Type 0 where
  written : (n : ℕ) (mode : Option ℕ) → kind_under k (temporary name n) ≡ found.Nothing
      → IsMode keeps (new_mode k (temporary name n)) (kind_under k name) mode
      → IsWritten k keeps name text (writing name mode text n)

-- What was found is a file with these bits, or no file, and may be replaced. (own)
pub data IsOld : Found → Option ℕ → Type 0 where
  old_file : (mode : ℕ) → IsOld (found.File mode) (Some mode)
  old_link : IsOld found.Link None
  no_old : IsOld found.Nothing None

-- In the place of any such thing the new file gets these permission bits. (own)
abbrev pub IsModeFor : Keeps → Option ℕ → Option ℕ → Option ℕ → Type 0
IsModeFor keeps made old mode = (seen : Found) → IsOld seen old → IsMode keeps made seen mode

-- A new file has no text yet, a part of its text, or the whole. (own)
pub data IsUnnamed (name : List ℕ) : List Deed → Type 0 where
  empty : IsUnnamed name []
  cut : IsUnnamed name (Failed name ∷ [])
  whole : (mode : Option ℕ) (text : List ℕ) → IsUnnamed name (Filled name mode text ∷ [])

-- A new file did not get the name that it was made for, and was removed again, unless the system
-- refused that. (own)
pub data IsDropped (name : List ℕ) : List Deed → Type 0 where
  removed : (deeds : List Deed) → IsUnnamed name deeds → IsDropped name (deeds ++ Removed name ∷ [])
  left : (deeds : List Deed) → IsUnnamed name deeds → IsDropped name deeds

-- Nothing was done, or a new file in the directory of the name was made, and was removed again,
-- unless the system refused that. (own)
pub data IsUndone (name : List ℕ) : List Deed → Type 0 where
  nothing : IsUndone name []
  dropped : (n : ℕ) (deeds : List Deed) → IsDropped (temporary name n) deeds
      → IsUndone name (Made (temporary name n) ∷ deeds)

-- The deed that makes this directory, if there is one. (own)
abbrev pub making : Option (List ℕ) → List Deed
making None = []
making (Some directory) = MadeDirectories directory ∷ []

-- The deed that makes the directories of a file. (own)
abbrev pub directories_for : List ℕ → List Deed
directories_for name = making (directory_of name)

-- A file or a link that was under the name was removed, a new file was made there, and got the
-- whole text. Nothing else was done. (own)
pub data IsReplaced (k : Known) (name text : List ℕ) : List Deed → Type 0 where
  replaced : IsReplaced k name text (clearing_now name k ++ filling name text k)

-- Nothing was done, since the system did not say what is under the name; or a file or a link that
-- was there was removed, and then nothing was made, or a new file that has not all of its text.
-- (own)
pub data IsBegun (k : Known) (name : List ℕ) : List Deed → Type 0 where
  unseen : IsBegun k name []
  cleared_only : IsBegun k name (clearing_now name k)
  torn : IsBegun k name (clearing_now name k ++ Made name ∷ Failed name ∷ [])
