-- Where the records of a run are, by their numbers.
use Rattle.std.specs.Prelude.{◌≡◌, ℕ, ◌+◌, ◌==◌, List, [], ◌∷◌, Option, None, Some, if◌then◌else◌}
use Rattle.std.specs.BTreeMap as tree
use Rattle.std.specs.BTreeMap.{BTreeMap}
use Rattle.std.specs.Ordering.{nat_cmp}
use Rattle.answers_text.specs.declared.record.Record.{Record}
use Rattle.crew_kept.specs.declared.state.State.{State}
use Rattle.crew_kept.specs.declared.state.State.TheVariants.{Open}

-- The place of the first record that has this number, if the first of these records is at `base`. (own)
abbrev pub place_of : ℕ → ℕ → List Record → Option ℕ
place_of number base [] = None
place_of number base (r ∷ rs) = if r.number == number then Some base else place_of number (base + 1) rs

-- The map has the place of each number. (own)
abbrev pub IsIndexFrom : ℕ → List Record → BTreeMap ℕ ℕ → Type 0
IsIndexFrom base records places = (n : ℕ) → tree.get nat_cmp places n ≡ place_of n base records

abbrev pub IsIndex : List Record → BTreeMap ℕ ℕ → Type 0
IsIndex records places = IsIndexFrom 0 records places

-- As long as replies are taken, the map has the places of the records. (own)
abbrev pub IsSupplied : List Record → BTreeMap ℕ ℕ → State → Type 0
IsSupplied records places state = state ≡ Open → IsIndex records places
