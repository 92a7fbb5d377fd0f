-- Values that are copied from one variable to another.
use Rattle.std.specs.Prelude.{◌≡◌, ℕ, Bool, true, false, List, Option, Some, None}
use Rattle.meaning.specs.State.{State, with_variable}

-- If there is a value, a variable is set to it; the Boolean reports whether there is one. (own)
abbrev pub Copied : Option (List ℕ) → List ℕ → Bool → State → State → Type 0
Copied None to told old new = (told ≡ false) × (new ≡ old)
Copied (Some value) to told old new = (told ≡ true) × (new ≡ with_variable to value old)
