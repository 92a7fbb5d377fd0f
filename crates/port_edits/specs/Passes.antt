-- A pass over a text: a relation of how much of it was read, and what was written. All of this is own.
use Rattle.std.specs.Prelude.{ℕ, ◌≤◌, List, ◌++◌, length, slice_range}

-- A pass may copy what is before a later offset.
pub record Copies (text : List ℕ) (Pass : ℕ → List ℕ → Type 0) : Type 0 where
  pub copied : (at next : ℕ) (out : List ℕ) → Pass at out → at ≤ next → next ≤ length text → Pass next (out ++ slice_range text at next)

-- A pass that has read up to the first offset may go on to the second one, and write this.
pub record Takes (Pass : ℕ → List ℕ → Type 0) (start end : ℕ) (put : List ℕ) : Type 0 where
  pub taken : (out : List ℕ) → Pass start out → Pass end (out ++ put)
