-- Which bare text has no effect: blanks and comments.
use Rattle.std.specs.Prelude.{◌≡◌, ◌↔◌, ℕ, ◌==◌, true, not, List, ◌∷◌, ◌++◌}
use Rattle.std.specs.List.{list_all}
use Rattle.text_cut.specs.Cuts.{is_blank}
use Rattle.m4quote.specs.Used.{IsBareValue}
use Rattle.ac_statement.specs.Idle.{is_idle}
use Rattle.ac_laws.specs.Signs.{newline}
use Rattle.ac_laws.specs.Position.{number_sign}

-- Spaces, tabs and newlines alone. (POSIX, "Token Recognition")
abbrev pub AreBlanks : List ℕ → Type 0
AreBlanks text = list_all is_blank text ≡ true

-- No newline is in the text.
abbrev pub IsOneLine : List ℕ → Type 0
IsOneLine text = list_all (λ b. not (b == newline)) text ≡ true

-- The text has blanks and comments alone. A comment goes from a `#` with only blanks before it to the end of its line.
-- (POSIX, "Token Recognition")
pub data IsIdle : List ℕ → Type 0 where
  blanks : {text : List ℕ} → AreBlanks text → IsIdle text
  last_comment : (before line : List ℕ) → AreBlanks before → IsOneLine line → IsIdle (before ++ number_sign ∷ line)
  comment : (before line rest : List ℕ) → AreBlanks before → IsOneLine line → IsIdle rest
      → IsIdle (before ++ number_sign ∷ (line ++ newline ∷ rest))

-- Bare text has no effect exactly if it has a value, and that is blanks and comments alone. (own)
abbrev pub IdleHasNoEffect : Type 0
IdleHasNoEffect = (text : List ℕ) → (is_idle text ≡ true) ↔ ((value : List ℕ) × IsBareValue text value × IsIdle value)
