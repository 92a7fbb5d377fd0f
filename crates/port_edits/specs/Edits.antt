-- Edits of a text, and the text that they give. All of this is own.
use Rattle.std.specs.Prelude.{◌≡◌, ℕ, ◌≤◌, nat_le, ◌&&◌, Bool, true, false, List, [], ◌∷◌, ◌++◌, length, slice_range, codes, if◌then◌else◌}
use Rattle.port_edits.specs.declared.edit.Edit.{Edit}

-- What is between two offsets is left out, and another text is put there.
pub record Change : Type 0 where
  pub start : ℕ
  pub end : ℕ
  pub put : List ℕ

-- The change that an edit makes.
abbrev pub change_of : Edit → Change
change_of edit = record { start = edit.start; end = edit.end; put = edit.put.items }

-- The change begins at this offset or after it, and what it leaves out is in the text.
abbrev pub fits : List ℕ → ℕ → Change → Bool
fits text at change = nat_le at change.start && nat_le change.start change.end && nat_le change.end (length text)

-- Those of some changes that are made in a text from an offset on: each that begins where the one that is made before it ends, or after that. So of two that
-- overlap the one that is earlier in the list is made.
unfoldable pub kept : List ℕ → ℕ → List Change → List Change
kept text at [] = []
kept text at (change ∷ changes) = if fits text at change then change ∷ kept text change.end changes else kept text at changes

-- Each of the changes begins where the one before it ends, or after that, the first one at this offset or after it, and all are within the text.
pub data AreApart (text : List ℕ) : ℕ → List Change → Type 0 where
  none : {at : ℕ} → at ≤ length text → AreApart text at []
  next : {at : ℕ} (change : Change) (changes : List Change) → at ≤ change.start → change.start ≤ change.end → AreApart text change.end changes → AreApart text at (change ∷ changes)

-- The text from an offset on, with such changes.
unfoldable pub with_changes : List ℕ → ℕ → List Change → List ℕ
with_changes text at [] = slice_range text at (length text)
with_changes text at (change ∷ changes) = slice_range text at change.start ++ (change.put ++ with_changes text change.end changes)

-- So much of a text was read, and this was written. Then an edit is made, and what is before it is copied; or it doesn't fit, and nothing happens.
pub data IsStep (text : List ℕ) (at : ℕ) (out : List ℕ) (change : Change) : ℕ → List ℕ → Type 0 where
  made : fits text at change ≡ true → IsStep text at out change change.end ((out ++ slice_range text at change.start) ++ change.put)
  left : fits text at change ≡ false → IsStep text at out change at out

-- An example: three changes of `a b c`, of which the second one is not made.
abbrev pub example : List Change
example = record { start = 2; end = 3; put = codes "B" } ∷ record { start = 2; end = 5; put = codes "d" } ∷ record { start = 4; end = 5; put = codes "C" } ∷ []
