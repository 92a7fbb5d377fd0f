-- When lines that say why are asked for.
use Rattle.std.specs.Prelude.{ℕ, ◌==◌, ◌&&◌, not, Bool, List, length, bytes_eq, codes}
use Rattle.std.specs.List.{list_any}

-- The entry of an environment is ACRUN_WHY, and its value isn't empty. (own)
abbrev pub is_asking : List ℕ × List ℕ → Bool
is_asking entry = bytes_eq entry.0 (codes "ACRUN_WHY") && not (length entry.1 == 0)

-- The environment asks for lines that say why. (own)
abbrev pub asks_why : List (List ℕ × List ℕ) → Bool
asks_why environment = list_any is_asking environment
