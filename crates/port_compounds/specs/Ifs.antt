-- The `if` of a shell between two offsets of a text, and its parts: the first condition, the first body, the next condition, the next
-- body and so on, and the body after `else`. (POSIX shell, 2.9.4.1 "The if Conditional Construct")
use Rattle.std.specs.Prelude.{◌≡◌, ℕ, ◌<◌, ◌≤◌, true, List, [], ◌∷◌, ◌++◌, slice_range, slice_index, codes}
use Rattle.m4quote.specs.ItemValue.{bare}
use Rattle.m4quote.specs.Spelling.{IsSpelling}
use Rattle.port_parts.specs.Parts.{EndsLast, IsBodyOf, IsListEnd, IsStatement}
use Rattle.port_parts.specs.Places.{HasNoHash, is_blank_or_return, AreBlank, IsWord}

-- Between two offsets is a condition, which ends before a `;` or a newline. It has no `#`. (own)
pub record IsConditionAt (text : List ℕ) (start end from to : ℕ) : Type 0 where
  pub order : (start < from) × (from ≤ to) × (to ≤ end)
  pub before : AreBlank text start from
  pub after : IsListEnd text to end
  pub no_comment : HasNoHash (slice_range text from to)

-- Between these offsets is this condition. m4 finds neither a macro nor `dnl` in it. (own)
pub record IsCondition (text : List ℕ) (start end : ℕ) (condition : List ℕ) : Type 0 where
  pub from : ℕ
  pub to : ℕ
  pub place : IsConditionAt text start end from to
  pub is : condition ≡ slice_range text from to
  pub plain : IsSpelling 0 condition (bare condition 0 ∷ [])

-- Between these offsets is this body, after at least one blank. It ends in the newline of its last line, or a `;` follows it. (own)
abbrev pub IsBody : List ℕ → ℕ → ℕ → List ℕ → Type 0
IsBody text start end body = (is_blank_or_return (slice_index text start) ≡ true) × IsBodyOf EndsLast text start end body

-- Between these offsets are a condition, `then`, and a body, which are these parts.
pub record IsBranch (text : List ℕ) (start end : ℕ) (condition body : List ℕ) : Type 0 where
  pub at_then : ℕ
  pub after_then : ℕ
  pub tests : IsCondition text start at_then condition
  pub word : IsWord text at_then (codes "then") after_then
  pub does : IsBody text after_then end body

-- The condition and the body of the branch between these offsets are added to the parts so far. (own)
pub record AddsBranch (text : List ℕ) (start end : ℕ) (old new : List (List ℕ)) : Type 0 where
  pub condition : List ℕ
  pub body : List ℕ
  pub branch : IsBranch text start end condition body
  pub added : new ≡ (old ++ condition ∷ []) ++ body ∷ []

-- The body between these offsets is added to the parts so far. (own)
pub record AddsBody (text : List ℕ) (start end : ℕ) (old new : List (List ℕ)) : Type 0 where
  pub body : List ℕ
  pub does : IsBody text start end body
  pub added : new ≡ old ++ body ∷ []

-- An `if` at offset `start` has been read up to the end of a branch, and has these parts so far.
pub data AreBranches (text : List ℕ) (start : ℕ) : ℕ → List (List ℕ) → Type 0 where
  first : {at end : ℕ} {parts : List (List ℕ)} → IsWord text start (codes "if") at → AddsBranch text at end [] parts → AreBranches text start end parts
  next : {before at end : ℕ} {parts more : List (List ℕ)} → AreBranches text start before parts → IsWord text before (codes "elif") at
      → AddsBranch text at end parts more → AreBranches text start end more

-- The same up to `fi`.
pub data AreAllBranches (text : List ℕ) (start : ℕ) : ℕ → List (List ℕ) → Type 0 where
  no_default : {end : ℕ} {parts : List (List ℕ)} → AreBranches text start end parts → AreAllBranches text start end parts
  default : {before at end : ℕ} {parts more : List (List ℕ)} → AreBranches text start before parts → IsWord text before (codes "else") at
      → AddsBody text at end parts more → AreAllBranches text start end more

-- Between these offsets is an `if` with these parts, as a statement of its own.
pub record IsIf (text : List ℕ) (start end : ℕ) (parts : List (List ℕ)) : Type 0 where
  pub at_fi : ℕ
  pub statement : IsStatement text start (codes "fi") at_fi end
  pub branches : AreAllBranches text start at_fi parts
