-- The reply at the end of a real child, and its cause if it is refused.
use Rattle.std.specs.Prelude.{◌≡◌, ◌⊎◌, ℕ, ℤ, ◌^◌, List, length, take, unsigned_abs, codes, Option, Some, None, IfSome, Result, Ok, Err}
use Rattle.std.specs.Process.{exit_code}
use Rattle.std.specs.Io.KnownBytes.{Consumes, IsAtEnd}
use Rattle.std.specs.declared.process.status.ExitStatus.{ExitStatus}
use Rattle.crew_refusals.specs.Shown.{IsCauseOf}
use Rattle.crew_trait.specs.declared.reply.Reply.{Reply}
use Rattle.crew_trait.specs.declared.reply.Reply.TheVariants.{Answer, StartRefused, EndRefused}

-- An exit code as a number, or 256 if there is none. (own)
abbrev pub number_of : Option ℤ → ℕ
number_of (Some code) = unsigned_abs code
number_of None = 256

-- The status of a child: its exit status, or 256 if a signal ended it. (own)
abbrev pub status_number : ExitStatus → ℕ
status_number status = number_of (exit_code status)

-- The reply of a child after the wait for it, with the diagnostics that were kept: a failed wait or a failed read is
-- not an answer. (own)
abbrev pub reply_of : {E : Type 0} → Result ExitStatus E → Option (List ℕ) → Reply
reply_of (Ok status) (Some text) = Answer (status_number status) text
reply_of (Ok status) None = EndRefused
reply_of (Err e) text = EndRefused

-- The text that is kept of a pipe with these bytes: the first 65,536 of those that were read. Either the pipe was read to
-- its end, or 4 MiB of it were read. (own)
pub record IsKept (known : Option (List ℕ)) (text : List ℕ) : Type 0 where
  pub bytes : List ℕ
  pub rest : Option (List ℕ)
  pub consumed : Consumes known rest bytes
  pub kept : text ≡ take 65536 bytes
  pub all : IsAtEnd rest ⊎ (length bytes ≡ 2 ^ 22)

-- An answer has the status that a wait returned, and a text with this property; a refused end claims nothing. (own)
abbrev pub Answers : Reply → Option ExitStatus → (List ℕ → Type 0) → Type 0
Answers (Answer status text) None P = ⊥
Answers (Answer status text) (Some s) P = (status ≡ status_number s) × P text
Answers StartRefused s P = ⊥
Answers EndRefused s P = Unit {0}

-- The cause of an end that is refused: of the wait if it failed, and otherwise that of the read. If
-- nothing is refused, there is none. (own)
abbrev pub IsCauseOfEnd : {E V : Type 0} → Result ExitStatus E → Result V (Option (List ℕ))
    → Option (Option (List ℕ)) → Type 0
IsCauseOfEnd (Err e) text (Some cause) = IfSome cause (IsCauseOf (codes "wait"))
IsCauseOfEnd (Err e) text None = ⊥
IsCauseOfEnd (Ok status) (Err why) cause = cause ≡ Some why
IsCauseOfEnd (Ok status) (Ok text) cause = cause ≡ None

-- It is of the read or of the wait, unless memory ran out for its line. (own)
abbrev pub IsOfEnd : Option (List ℕ) → Type 0
IsOfEnd cause = IfSome cause (λ line. IsCauseOf (codes "read") line ⊎ IsCauseOf (codes "wait") line)

-- An answer has no cause, and a refused end has one. (own)
abbrev pub IsExplained : Reply → Option (Option (List ℕ)) → Type 0
IsExplained (Answer status text) cause = cause ≡ None
IsExplained StartRefused cause = ⊥
IsExplained EndRefused None = ⊥
IsExplained EndRefused (Some cause) = IsOfEnd cause
