-- What a statement argument denotes: one quoted run with blanks and `dnl` lines around it denotes its inside, and a
-- text with no bracket outside its calls denotes itself (own; if quotes are left out, Autoconf would expand the calls
-- first, to the same statements). These are the rules; `Inside` has the same as functions.
use Rattle.std.specs.Prelude.{◌≡◌, ℕ, ◌+◌, ◌<◌, ◌≤◌, true, List, ◌∷◌, ◌++◌, length, slice_index, Any}
use Rattle.m4quote.specs.ItemValue.{Span, ItemValue, call, bare}
use Rattle.m4quote.specs.Spelling.{Balanced, IsSpelling}
use Rattle.m4quote.specs.Text.{open_bracket, close_bracket}
use Rattle.ac_statement.specs.Texts.{is_all_blank, is_bracket}
use Rattle.ac_statement.specs.Inside.{are_blank}

-- ---- one quoted run

-- The text is one quoted run with blanks around it, and this is the run's inside at its offset. (GNU M4's manual,
-- "Quoted strings"; any number of brackets may be open)
pub record IsRun (text inside : Span) : Type 0 where
  pub before : List ℕ
  pub after : List ℕ
  pub room : ℕ
  pub parts : text.text ≡ before ++ open_bracket ∷ (inside.text ++ close_bracket ∷ after)
  pub blank_before : is_all_blank before ≡ true
  pub blank_after : is_all_blank after ≡ true
  pub balanced : Balanced room inside.text
  pub offset : inside.at ≡ text.at + length before + 1

-- The items are this bare text, and blanks beside it. (own)
pub record IsAllBut (items : List ItemValue) (text : Span) : Type 0 where
  pub before : List ItemValue
  pub after : List ItemValue
  pub parts : items ≡ before ++ bare text.text text.at ∷ after
  pub blank_before : are_blank before ≡ true
  pub blank_after : are_blank after ≡ true

-- ---- brackets and calls

-- The argument has a byte at this offset. (own)
abbrev pub HasByteAt : ℕ → Span → Type 0
HasByteAt place arg = (arg.at ≤ place) × (place < arg.at + length arg.text)

-- The item is a call, and one of its arguments has a byte at this offset. (own)
abbrev pub IsInCall : ℕ → ItemValue → Type 0
IsInCall place (call name args at) = Any (HasByteAt place) args
IsInCall place (bare text at) = ⊥

-- Each bracket of a text at `at` is in an argument of one of its calls, so none is in bare text, a comment between
-- calls or a dropped `dnl` line. (own)
abbrev pub HasBracketsInCallsAlone : ℕ → List ℕ → List ItemValue → Type 0
HasBracketsInCallsAlone at text items = (k : ℕ) → k < length text → is_bracket (slice_index text k) ≡ true → Any (IsInCall (at + k)) items

-- ---- the argument

-- A statement argument denotes this text. (own)
pub data StandsFor (arg : Span) : Span → Type 0 where
  run : {items : List ItemValue} {text inside : Span} → IsSpelling arg.at arg.text items → IsAllBut items text → IsRun text inside → StandsFor arg inside
  itself : {items : List ItemValue} → IsSpelling arg.at arg.text items → HasBracketsInCallsAlone arg.at arg.text items → StandsFor arg arg
