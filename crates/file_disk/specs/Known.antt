-- What is known of a disk: what was done to it, and what is under its names.
use Rattle.std.specs.Prelude.{◌≡◌, ℕ, ◌+◌, ◌^◌, List, ◌++◌, take, Option, Some, None, ⊤}
use Rattle.file_disk.specs.declared.found.Found.{Found}
use Rattle.file_disk.specs.declared.found.Found.TheVariants as found

-- Something that was done to files. (own)
pub data Deed : Type 0 where
  -- The directories of this name were made that were not there, or only some of them.
  MadeDirectories : (name : List ℕ) → Deed
  -- A new file of this name was made, which has no text.
  Made : (name : List ℕ) → Deed
  -- A new file got its permission bits, if there are some here, and then its whole text.
  Filled : (name : List ℕ) (mode : Option ℕ) (text : List ℕ) → Deed
  -- A new file did not get all of its text.
  Failed : (name : List ℕ) → Deed
  -- A file got another name, and what was under that name is gone.
  Renamed : (from to : List ℕ) → Deed
  -- A file or a link was removed.
  Removed : (name : List ℕ) → Deed

-- What is under the names of a disk that nobody else changes, after these deeds: the text of the
-- regular file that each name leads to, if it can be read; what is under each name; the name that
-- each link has, if it can be read; and for each directory its device and its number there, if the
-- system says them. (own)
pub record Files : Type 0 where
  pub texts : List Deed → List ℕ → Option (List ℕ)
  pub kinds : List Deed → List ℕ → Found
  pub targets : List Deed → List ℕ → Option (List ℕ)
  pub directories : List Deed → List ℕ → Option (ℕ × ℕ)

-- What is known of a disk: what was done to it, in order, and what is under its names. (own)
pub record Known : Type 0 where
  pub deeds : List Deed
  pub files : Files

-- The text under a name now. (own)
abbrev pub text_under : Known → List ℕ → Option (List ℕ)
text_under k name = k.files.texts k.deeds name

-- What is under a name now. (own)
abbrev pub kind_under : Known → List ℕ → Found
kind_under k name = k.files.kinds k.deeds name

-- The permission bits of what was found, and those of its kind, if it is a regular file. (own)
abbrev pub mode_of : Found → Option ℕ
mode_of (found.File mode) = Some mode
mode_of found.Nothing = None
mode_of found.Link = None
mode_of found.Directory = None
mode_of found.Special = None

-- The permission bits of the regular file under a name now, and those of its kind. (own)
abbrev pub mode_under : Known → List ℕ → Option ℕ
mode_under k name = mode_of (kind_under k name)

-- The name that the link under a name has now. (own)
abbrev pub target_under : Known → List ℕ → Option (List ℕ)
target_under k name = k.files.targets k.deeds name

-- The device of the directory of a name and its number there, now. (own)
abbrev pub directory_under : Known → List ℕ → Option (ℕ × ℕ)
directory_under k name = k.files.directories k.deeds name

-- What is known after more deeds. (own)
abbrev pub with_deeds : Known → List Deed → Known
with_deeds k deeds = record { deeds = k.deeds ++ deeds; files = k.files }

-- If something is known, these deeds are added. If nothing is known, nothing is known afterwards.
-- (own)
abbrev pub Adds : Option Known → Option Known → List Deed → Type 0
Adds None None deeds = ⊤
Adds None (Some new) deeds = ⊥
Adds (Some old) None deeds = ⊥
Adds (Some old) (Some new) deeds = new ≡ with_deeds old deeds

-- If something is known, some deeds are added that have this property, given what was known before.
-- (own)
abbrev pub Does : Option Known → Option Known → (Known → List Deed → Type 0) → Type 0
Does None None P = ⊤
Does None (Some new) P = ⊥
Does (Some old) None P = ⊥
Does (Some old) (Some new) P = (deeds : List Deed) × (new ≡ with_deeds old deeds) × P old deeds

-- The first 64 MiB of a text, and one byte more. (own)
abbrev pub limited : List ℕ → List ℕ
limited text = take (2 ^ 26 + 1) text
