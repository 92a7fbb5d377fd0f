-- The texts that a process is given.
use Rattle.std.specs.Prelude.{ℕ, ◌+◌, ◌==◌, List, [], ◌∷◌, take, drop, position, Option, Some, None}
use Rattle.std.specs.List.{flat_map}
use Rattle.cmd_call.specs.declared.process.Listed.{Listed}
use Rattle.cmd_call.specs.declared.process.Listed.TheVariants.{Arguments, Environment}

-- The arguments, of which the first is the program's name, and the entries of the environment. (own)
pub record Given : Type 0 where
  pub arguments : List (List ℕ)
  pub environment : List (List ℕ)

-- One of the two lists. (own)
abbrev pub listed : Listed → Given → List (List ℕ)
listed Arguments g = g.arguments
listed Environment g = g.environment

-- The parts of a text before and after this offset. (own)
abbrev pub cut_at : List ℕ → Option ℕ → Option (List ℕ × List ℕ)
cut_at text None = None
cut_at text (Some at) = Some (take at text, drop (at + 1) text)

-- The parts of a text before and after its first `=`, if it has one. (own)
abbrev pub cut : List ℕ → Option (List ℕ × List ℕ)
cut text = cut_at text (position (λ b. b == 61) text)

-- A list of one, or of none. (own)
abbrev pub as_list : Option (List ℕ × List ℕ) → List (List ℕ × List ℕ)
as_list None = []
as_list (Some entry) = entry ∷ []

-- The name and the value of an entry of the environment. One without `=` has none. (own)
unfoldable pub entry_of : List ℕ → List (List ℕ × List ℕ)
entry_of text = as_list (cut text)

-- The names and the values of these entries. (own)
abbrev pub entries_of : List (List ℕ) → List (List ℕ × List ℕ)
entries_of texts = flat_map entry_of texts
