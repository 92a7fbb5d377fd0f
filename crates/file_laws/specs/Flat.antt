-- A disk of one directory without links, on which each name is that of its last part.
use Rattle.std.specs.Prelude.{ℕ, List, [], ◌∷◌, Option, Some, None, bytes_eq, if◌then◌else◌}
use Rattle.file_disk.specs.Known.{Files, Deed, MadeDirectories, Made, Filled, Failed, Renamed, Removed}
use Rattle.file_disk.specs.declared.found.Found.{Found}
use Rattle.file_disk.specs.declared.found.Found.TheVariants as found
use Rattle.file_texts.specs.Names.{last_of}

-- The texts of the files in the directory, by their names there.
abbrev pub Texts : Type 0
Texts = List ℕ → Option (List ℕ)

-- The texts after a deed. A file that is made has no text, and one that did not get all of its text
-- has none here. (own)
abbrev pub after_deed : Deed → Texts → Texts
after_deed (MadeDirectories name) before own = before own
after_deed (Made name) before own = if bytes_eq own (last_of name) then Some [] else before own
after_deed (Filled name mode text) before own = if bytes_eq own (last_of name) then Some text else before own
after_deed (Failed name) before own = if bytes_eq own (last_of name) then Some [] else before own
after_deed (Renamed from to) before own =
    if bytes_eq own (last_of to) then before (last_of from) else (if bytes_eq own (last_of from) then None else before own)
after_deed (Removed name) before own = if bytes_eq own (last_of name) then None else before own

-- The texts after these deeds. (own)
abbrev pub after_deeds : Texts → List Deed → Texts
after_deeds start [] own = start own
after_deeds start (deed ∷ deeds) own = after_deeds (after_deed deed start) deeds own

-- What is under a name with this text: a regular file, or nothing. (own)
abbrev pub kind_of : Option (List ℕ) → Found
kind_of None = found.Nothing
kind_of (Some text) = found.File 0o644

-- The disk, if these are the texts at first. (own)
abbrev pub flat : Texts → Files
flat start = record {
  texts = λ deeds name. after_deeds start deeds (last_of name);
  kinds = λ deeds name. kind_of (after_deeds start deeds (last_of name));
  targets = λ deeds name. None;
  directories = λ deeds name. Some (0, 0);
}
