-- How a command ends on a terminal.
use Rattle.std.specs.Prelude.{◌≡◌, ◌⊎◌, ℕ, Bool, true, false, List, Option, Some, None}
use Rattle.std.specs.Io.KnownBytes.{Appends}
use Rattle.cmd_call.specs.Calls.{ProgramCall, Configure, Recheck}

-- The call is a run. (own)
abbrev pub asks_run : ProgramCall → Bool
asks_run (Configure window arguments) = true
asks_run Recheck = true
asks_run call = false

-- This line is appended, or the stream failed. If there is no line, nothing is. (own)
abbrev pub IsSummed : {E : Type 0} → (E → Option (List ℕ)) → (E → Bool) → E → E → Option (List ℕ) → Type 0
IsSummed contents has_failed old new None = new ≡ old
IsSummed contents has_failed old new (Some line) = Appends (contents old) (contents new) line ⊎ (has_failed new ≡ true)
