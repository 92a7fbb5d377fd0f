-- The pipe of a child's diagnostics, and the child.
use Rattle.std.specs.Prelude.{◌≡◌, ◌⊎◌, ℕ, Bool, true, false, List, ◌++◌, Option, Some, None}
use Rattle.std.specs.Io.KnownBytes.{prepend_known}
use Rattle.std.specs.declared.process.status.ExitStatus.{ExitStatus}

-- A pipe: whether it is open, what is left in it, if that is known, how many pieces of it were read, whether its end was
-- read, and whether a read failed. (own)
pub record Piped : Type 0 where
  pub is_open : Bool
  pub left : Option (List ℕ)
  pub reads : ℕ
  pub is_read : Bool
  pub has_failed : Bool

-- What is left in a pipe. If there is none, nothing is known. (own)
abbrev pub left_of : Option (Option (List ℕ)) → Option (List ℕ)
left_of None = None
left_of (Some known) = known

-- The pipe was not read. (own)
abbrev pub IsUnread : Piped → Type 0
IsUnread pipe = (pipe.reads ≡ 0) × (pipe.has_failed ≡ false)

-- The pipe was read to its end, or 1,024 pieces of it were, and no read failed. (own)
abbrev pub IsReadThrough : Piped → Type 0
IsReadThrough pipe = ((pipe.is_read ≡ true) ⊎ (pipe.reads ≡ 1024)) × (pipe.has_failed ≡ false)

-- A child: its pipe, its status, if a wait has told it, and whether it was waited for. (own)
pub record Running : Type 0 where
  pub pipe : Piped
  pub status : Option ExitStatus
  pub is_awaited : Bool

-- Bytes are moved from what is left, if that is known, to the end of a queue. (own)
abbrev pub ReadsAhead : List ℕ → List ℕ → Option (List ℕ) → Option (List ℕ) → Type 0
ReadsAhead queue new left rest =
    (bytes : List ℕ) × (new ≡ queue ++ bytes) × (left ≡ prepend_known bytes rest)
