-- Where links lead.
use Rattle.std.specs.Prelude.{◌≡◌, Bool, true, false, ℕ, List, ◌++◌, Some, if◌then◌else◌}
use Rattle.file_disk.specs.Known.{Known, kind_under, target_under}
use Rattle.file_disk.specs.declared.found.Found.{Found}
use Rattle.file_disk.specs.declared.found.Found.TheVariants as found
use Rattle.file_texts.specs.Names.{front_of, is_absolute}

-- A link was found. (own)
abbrev pub is_link : Found → Bool
is_link found.Link = true
is_link found.Nothing = false
is_link (found.File mode) = false
is_link found.Directory = false
is_link found.Special = false

-- A name of a link, from where the link is: an absolute name as it is, and any other one in the
-- link's directory. (path_resolution(7))
abbrev pub name_from : List ℕ → List ℕ → List ℕ
name_from name target = if is_absolute target then target else front_of name ++ target

-- The link under the name has this name for another file. (own)
pub record IsNext (k : Known) (name next : List ℕ) : Type 0 where
  pub target : List ℕ
  pub there : target_under k name ≡ Some target
  pub from : next ≡ name_from name target

-- A name leads to this end, over any links between. No link is under the end. (own)
pub data LeadsTo (k : Known) : List ℕ → List ℕ → Type 0 where
  itself : {name : List ℕ} → is_link (kind_under k name) ≡ false → LeadsTo k name name
  on : {name : List ℕ} (next end : List ℕ) → is_link (kind_under k name) ≡ true
      → IsNext k name next → LeadsTo k next end → LeadsTo k name end
