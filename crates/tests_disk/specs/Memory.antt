-- What is known of the disk in memory.
use Rattle.std.specs.Prelude.{ℕ, List, [], ◌∷◌, Option, Some, None, map, option_map, reverse, bytes_eq, if◌then◌else◌}
use Rattle.file_disk.specs.Known.{Known, Files, Deed, MadeDirectories, Made, Filled, Failed, Renamed, Removed}
use Rattle.file_disk.specs.declared.found.Found.{Found}
use Rattle.file_disk.specs.declared.found.Found.TheVariants as found
use Rattle.file_texts.specs.Names.{last_of}
use Rattle.tests_disk.specs.declared.done.Placed.{Placed}
use Rattle.tests_disk.specs.declared.done.Step.{Step}
use Rattle.tests_disk.specs.declared.done.Step.TheVariants as steps

-- The deed that a step is. (own)
abbrev pub deed_of : Step → Deed
deed_of (steps.MadeDirectories name) = MadeDirectories name
deed_of (steps.Made name) = Made name
deed_of (steps.Filled name mode text) = Filled name mode text
deed_of (steps.Failed name) = Failed name
deed_of (steps.Renamed from to) = Renamed from to
deed_of (steps.Removed name) = Removed name

-- A regular file: what a look at it finds, and its text. (own)
pub record Plain : Type 0 where
  pub mode : ℕ
  pub text : List ℕ

-- A new file, as a system makes it under the mask 022. (own)
abbrev pub new_file : List ℕ → Plain
new_file text = record { mode = 0o100644; text = text }

-- The file of this name in the directory, if it is one of these. (own)
abbrev pub file_among : List Placed → List ℕ → Option Plain
file_among [] own = None
file_among (f ∷ files) own = if bytes_eq own (last_of f.name) then Some (record { mode = f.mode; text = f.text }) else file_among files own

-- The name under which a deed finds what it leaves under this one, or nothing if it makes it or takes it
-- away. (own)
abbrev pub source_of : Deed → List ℕ → Option (List ℕ)
source_of (MadeDirectories name) own = Some own
source_of (Made name) own = if bytes_eq own (last_of name) then None else Some own
source_of (Filled name mode text) own = if bytes_eq own (last_of name) then None else Some own
source_of (Failed name) own = if bytes_eq own (last_of name) then None else Some own
source_of (Renamed from to) own =
    if bytes_eq own (last_of to) then Some (last_of from) else (if bytes_eq own (last_of from) then None else Some own)
source_of (Removed name) own = if bytes_eq own (last_of name) then None else Some own

-- The text that a deed gives to the file that it makes or fills. A file that did not get all of its text
-- has none here. (own)
abbrev pub text_by : Deed → Option (List ℕ)
text_by (MadeDirectories name) = None
text_by (Made name) = Some []
text_by (Filled name mode text) = Some text
text_by (Failed name) = Some []
text_by (Renamed from to) = None
text_by (Removed name) = None

-- What a deed leaves under a name: what it makes, or what was under this name before it. (own)
abbrev pub file_by : Option Plain → (List ℕ → Option Plain) → Option (List ℕ) → Option Plain
file_by new before None = new
file_by new before (Some own) = before own

-- What is under a name in the directory after these deeds, which are in order from the last to the
-- first. (own)
abbrev pub file_after : List Placed → List Deed → List ℕ → Option Plain
file_after files [] own = file_among files own
file_after files (deed ∷ earlier) own = file_by (option_map new_file (text_by deed)) (λ name. file_after files earlier name) (source_of deed own)

-- What is found, if this is there. (own)
abbrev pub kind_of : Option Plain → Found
kind_of None = found.Nothing
kind_of (Some file) = found.File file.mode

-- The names of a disk of one directory without links, on which each name is that of its last part, if
-- these files are in it at first. (own)
abbrev pub files_of : List Placed → Files
files_of files = record {
  texts = λ deeds name. option_map (λ f. f.text) (file_after files (reverse deeds) (last_of name));
  kinds = λ deeds name. kind_of (file_after files (reverse deeds) (last_of name));
  targets = λ _ _. None;
  directories = λ _ _. Some (0, 0);
}

-- What is known of such a disk, on which these steps were done. (own)
abbrev pub known_of : List Placed → List Step → Known
known_of files steps = record { deeds = map deed_of steps; files = files_of files }
