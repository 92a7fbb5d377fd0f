-- With what a run is started again: the variables before the first run, with the values of a cache.
use Rattle.std.specs.Prelude.{◌≡◌, ℕ, List, Option, Some, None}
use Rattle.cachefile.specs.Text.{saved_value}
use Rattle.deftable.specs.Table.{value_of}
use Rattle.meaning.specs.State.{State}

-- A value of the cache, or the one from before if the cache has none. (Autoconf's manual, "Cache Files")
abbrev pub poured : Option (List ℕ) → Option (List ℕ) → Option (List ℕ)
poured None old = old
poured (Some value) old = Some value

-- The second state is the one before, with each value that a cache saves at this end. (Autoconf's manual, "Cache Files")
pub record Poured (end before second : State) : Type 0 where
  pub defs : second.defs ≡ before.defs
  pub value : (name : List ℕ) → value_of second.vars name ≡ poured (saved_value name (value_of end.vars name)) (value_of before.vars name)
