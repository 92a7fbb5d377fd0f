-- Texts with their names in a hash.
use Rattle.std.specs.Prelude.{ℕ, List, Option, option_map, bytes_eq}
use Rattle.std.specs.Global.{Vec}
use Rattle.std.specs.Map.{lookup}

-- The text that these entries have for a name. (own)
abbrev pub found_in : {T : Type 0} → (T → List ℕ) → List (Vec ℕ × T) → List ℕ → Option (List ℕ)
found_in text es name = option_map text (lookup (λ k. bytes_eq name k.items) es)
