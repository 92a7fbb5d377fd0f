-- A disk of directories that are there or not, with one link.
use Rattle.std.specs.Prelude.{ℕ, ◌&&◌, Bool, not, suc, List, [], ◌∷◌, ◌++◌, Option, Some, None, is_some, option_map, bytes_eq, codes, if◌then◌else◌}
use Rattle.file_disk.specs.Known.{Files, Deed, MadeDirectories, Made, Filled, Failed, Renamed, Removed}
use Rattle.file_disk.specs.declared.found.Found.{Found}
use Rattle.file_disk.specs.declared.found.Found.TheVariants as found
use Rattle.file_texts.specs.Links.{name_from}
use Rattle.file_texts.specs.Names.{home_of}
use Rattle.file_laws.specs.Flat.{Texts}

-- The name of the link, and the name that it has for another file. (own)
pub record Link : Type 0 where
  pub name : List ℕ
  pub target : List ℕ

-- What is on the disk: the texts of regular files, by their whole names; the directories, by the names
-- in which their files are looked up, which end in a slash or are `.`; and whether the link is there.
-- (own)
pub record State : Type 0 where
  pub texts : Texts
  pub homes : List (List ℕ)
  pub linked : Bool

-- The number of a directory: how many others are before it. (own)
abbrev pub index_of : List (List ℕ) → List ℕ → Option ℕ
index_of [] home = None
index_of (first ∷ homes) home = if bytes_eq home first then Some 0 else option_map suc (index_of homes home)

-- The directory of a name is there. (own)
abbrev pub is_there : State → List ℕ → Bool
is_there s name = is_some (index_of s.homes (home_of name))

-- The link is under this name. (own)
abbrev pub is_linked : Link → State → List ℕ → Bool
is_linked link s name = s.linked && (bytes_eq name link.name && is_there s name)

-- The text of the regular file of this name. (own)
abbrev pub own_text : State → List ℕ → Option (List ℕ)
own_text s name = if is_there s name then s.texts name else None

-- The name of the file that the link leads to. (own)
abbrev pub end_of : Link → List ℕ
end_of link = name_from link.name link.target

-- What is under a name with this text: a regular file of user 0, or nothing. (own)
abbrev pub plain_kind : Option (List ℕ) → Found
plain_kind None = found.Nothing
plain_kind (Some text) = found.File 0o100644

-- The text that is read under a name, and what is there. (own)
abbrev pub text_in : Link → State → List ℕ → Option (List ℕ)
text_in link s name = if is_linked link s name then own_text s (end_of link) else own_text s name

abbrev pub kind_in : Link → State → List ℕ → Found
kind_in link s name = if is_linked link s name then found.Link else plain_kind (own_text s name)

-- A regular file with this text, or nothing, takes the place of what is under the name. (own)
abbrev pub with_file : Link → State → List ℕ → Option (List ℕ) → State
with_file link s name text = record {
  texts = λ other. if bytes_eq other name then text else s.texts other;
  homes = s.homes;
  linked = s.linked && not (bytes_eq link.name name);
}

-- What a deed does. A file that did not get all of its text has none here. The link can't be renamed.
-- (own)
abbrev pub after_deed : Link → Deed → State → State
after_deed link (MadeDirectories name) s = record { texts = s.texts; homes = s.homes ++ (name ++ codes "/") ∷ []; linked = s.linked }
after_deed link (Made name) s = with_file link s name (Some [])
after_deed link (Filled name mode text) s = with_file link s name (Some text)
after_deed link (Failed name) s = with_file link s name (Some [])
after_deed link (Renamed from to) s =
    if is_linked link s from then s else with_file link (with_file link s from None) to (own_text s from)
after_deed link (Removed name) s = with_file link s name None

abbrev pub after_deeds : Link → State → List Deed → State
after_deeds link start [] = start
after_deeds link start (deed ∷ deeds) = after_deeds link (after_deed link deed start) deeds

-- The disk with this link, if this is on it at first. (own)
abbrev pub tree : Link → State → Files
tree link start = record {
  texts = λ deeds name. text_in link (after_deeds link start deeds) name;
  kinds = λ deeds name. kind_in link (after_deeds link start deeds) name;
  targets = λ deeds name. if is_linked link (after_deeds link start deeds) name then Some link.target else None;
  directories = λ deeds name. option_map (λ i. (0, i)) (index_of (after_deeds link start deeds).homes name);
}
