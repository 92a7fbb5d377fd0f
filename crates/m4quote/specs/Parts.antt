-- Each piece that was read is the part of the text at its offset.
use Rattle.std.specs.Prelude.{◌≡◌, ℕ, ◌+◌, ◌-◌, ◌≤◌, List, length, take, drop, All}
use Rattle.m4quote.specs.ItemValue.{Span, ItemValue, call, bare}

-- These bytes are at the offset `place`, in a text that is itself at the offset `at`. (own)
pub record IsPart (at : ℕ) (text : List ℕ) (place : ℕ) (part : List ℕ) : Type 0 where
  pub begins : at ≤ place
  pub ends : place - at + length part ≤ length text
  pub bytes : take (length part) (drop (place - at) text) ≡ part

-- The argument is the part of the text at its offset. (own)
abbrev pub IsSpanOf : ℕ → List ℕ → Span → Type 0
IsSpanOf at text arg = IsPart at text arg.at arg.text

-- The item is the part of the text at its offset: bare text, or a name and each argument. (own)
abbrev pub IsItemOf : ℕ → List ℕ → ItemValue → Type 0
IsItemOf at text (call name args place) = IsPart at text place name × All (IsSpanOf at text) args
IsItemOf at text (bare run place) = IsPart at text place run

-- All items are the parts of the text at their offsets. (own)
abbrev pub ArePartsOf : ℕ → List ℕ → List ItemValue → Type 0
ArePartsOf at text items = All (IsItemOf at text) items
