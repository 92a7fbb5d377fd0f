-- The text of an idiom whose places are filled.
use Rattle.std.specs.Prelude.{ℕ, List, [], ◌∷◌, ◌++◌, Option, Some, None}
use Rattle.text_cut.specs.Cuts.{parts}
use Rattle.lint_macros.specs.Places.{Hole, hole_of}
use Rattle.lint_macros.specs.Values.{value}

-- What a `$` and the text after it become: if that text begins with a place, the place's value and the rest; otherwise
-- they stay. (own)
abbrev pub filled_or : Option Hole → List (List ℕ) → List ℕ → List ℕ
filled_or (Some p) args t = value args p ++ p.rest
filled_or None args t = 36 ∷ t

abbrev pub filled_sign : List (List ℕ) → List ℕ → List ℕ
filled_sign args t = filled_or (hole_of t) args t

-- The texts after each `$`, with what becomes of these. (own)
abbrev pub filled_signs : List (List ℕ) → List (List ℕ) → List ℕ
filled_signs args [] = []
filled_signs args (t ∷ more) = filled_sign args t ++ filled_signs args more

-- The texts around each `$`, joined, with each place filled. (own)
abbrev pub joined : List (List ℕ) → List (List ℕ) → List ℕ
joined args [] = []
joined args (first ∷ more) = first ++ filled_signs args more

-- A text whose places are filled, for a call with these arguments. (own)
unfoldable pub filled : List (List ℕ) → List ℕ → List ℕ
filled args t = joined args (parts 36 t)
