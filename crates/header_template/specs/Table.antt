-- Entries in the byte order of their names, each name once. An entry is a name and its description, which is empty if it has none. All of
-- this is own.
use Rattle.std.specs.Prelude.{◌≡◌, ℕ, Bool, true, false, ◌&&◌, List, [], ◌∷◌, Option, Some, None, is_some, bytes_eq, fold, if◌then◌else◌}
use Rattle.std.specs.BTreeMap.{insert_entry}
use Rattle.std.specs.Ordering.{nat_cmp}
use Rattle.std.specs.Cmp.Lexicographic.{slice_cmp}
use Rattle.std.specs.List.Sorted.{IsStrictlySortedBy}
use Rattle.deftable.specs.NameList.{has_name}
use Rattle.deftable.specs.Table.{value_of, names_of}

-- What is known of a name if one more entry describes it so: the description, unless it is empty and there was another.
abbrev pub joined : Option (List ℕ) → List ℕ → Option (List ℕ)
joined None description = Some description
joined (Some before) [] = Some before
joined (Some before) (byte ∷ more) = Some (byte ∷ more)

-- What is known of a name after one more entry.
abbrev pub after : List ℕ → Option (List ℕ) → List ℕ × List ℕ → Option (List ℕ)
after name known entry = if bytes_eq name entry.0 then joined known entry.1 else known

-- What is known of a name by these entries: nothing if it is in none of them, and otherwise the last description that isn't empty. It is
-- empty if each is.
abbrev pub known_of : List (List ℕ × List ℕ) → List ℕ → Option (List ℕ)
known_of entries name = fold (after name) None entries

-- Each name is before the next one, byte by byte.
abbrev pub AreInOrder : List (List ℕ × List ℕ) → Type 0
AreInOrder table = IsStrictlySortedBy (slice_cmp nat_cmp) (names_of table)

-- The table of entries has each of their names once, and no other, in order. Each has its last description that isn't empty.
pub record IsTable (entries table : List (List ℕ × List ℕ)) : Type 0 where
  pub in_order : AreInOrder table
  pub names : (name : List ℕ) → has_name (names_of table) name ≡ has_name (names_of entries) name
  pub descriptions : (name : List ℕ) → value_of table name ≡ known_of entries name

-- ---- as a function

-- A description is empty.
abbrev pub is_none : List ℕ → Bool
is_none [] = true
is_none (byte ∷ more) = false

-- The table with this entry in its place.
abbrev pub with_placed : List (List ℕ × List ℕ) → List ℕ × List ℕ → List (List ℕ × List ℕ)
with_placed table entry = insert_entry (slice_cmp nat_cmp) table entry.0 entry.1

-- The table after one more entry: as it was if that describes nothing and its name is there.
abbrev pub with_entry : List (List ℕ × List ℕ) → List ℕ × List ℕ → List (List ℕ × List ℕ)
with_entry table entry = if is_none entry.1 && is_some (value_of table entry.0) then table else with_placed table entry

-- The table after these entries.
abbrev pub with_all : List (List ℕ × List ℕ) → List (List ℕ × List ℕ) → List (List ℕ × List ℕ)
with_all table entries = fold with_entry table entries

-- The description that a table has of a name: an empty one if it has none.
abbrev pub or_empty : Option (List ℕ) → List ℕ
or_empty None = []
or_empty (Some description) = description

abbrev pub described : List (List ℕ × List ℕ) → List ℕ → List ℕ
described table name = or_empty (value_of table name)
