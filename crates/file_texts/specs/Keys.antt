-- By which keys places and names are found.
use Rattle.std.specs.Prelude.{◌≡◌, ℕ, true, List, [], ◌++◌, All, Option, Some, None, is_some}
use Rattle.std.specs.Int.{to_be_bytes, w64}
use Rattle.deftable.specs.Table.{value_of}
use Rattle.file_texts.specs.declared.places.Guard.{Guard}
use Rattle.file_texts.specs.declared.places.FilePlace.{FilePlace}

-- The key of a place. Places that are one have one key. (own)
unfoldable pub place_key : FilePlace → List ℕ
place_key place = to_be_bytes w64 place.directory ++ place.name

-- The key of a place, if there is one, and otherwise an empty text. (own)
abbrev pub key_at : Option FilePlace → List ℕ
key_at None = []
key_at (Some place) = place_key place

-- The key of the place of a guard. (own)
abbrev pub guard_key : Guard → List ℕ
guard_key guard = key_at guard.place

-- The key of each of these is a name of the table. (own)
unfoldable pub AreInTable : {A : Type 0} → (A → List ℕ) → List (List ℕ × List ℕ) → List A → Type 0
AreInTable key table xs = All (λ x. is_some (value_of table (key x)) ≡ true) xs

-- The key of each place is a name of the table. (own)
abbrev pub AreKeyed : List (List ℕ × List ℕ) → List FilePlace → Type 0
AreKeyed table places = AreInTable place_key table places

-- Each guarded name is a name of the table. (own)
abbrev pub AreNamed : List (List ℕ × List ℕ) → List Guard → Type 0
AreNamed table guards = AreInTable (λ guard. guard.name) table guards

-- The key of the place of each guard is a name of the table. (own)
abbrev pub AreKeyedGuards : List (List ℕ × List ℕ) → List Guard → Type 0
AreKeyedGuards table guards = AreInTable guard_key table guards
