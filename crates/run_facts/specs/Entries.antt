-- The environment, as the fingerprint of a run has it.
use Rattle.std.specs.Prelude.{ℕ, List, [], ◌∷◌, ◌++◌, Bool, codes, bytes_eq, if◌then◌else◌}
use Rattle.std.specs.List.{flat_map}

-- The variable that asks for a run that begins afresh. (own)
abbrev pub is_afresh : List ℕ → Bool
is_afresh name = bytes_eq name (codes "ACRUN_AFRESH")

-- A variable as one text, unless it is that one. (own)
unfoldable pub entry_text : List ℕ × List ℕ → List (List ℕ)
entry_text (name, value) = if is_afresh name then [] else (name ++ 61 ∷ value) ∷ []

-- The variables, each as one text. (own)
abbrev pub entries : List (List ℕ × List ℕ) → List (List ℕ)
entries environment = flat_map entry_text environment
