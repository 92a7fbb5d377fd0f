-- What of a terminal is shown by a command itself.
use Rattle.std.specs.Prelude.{Bool, true, false}
use Rattle.cmd_call.specs.Calls.{ProgramCall, Lint}

-- Control bytes of what is printed are shown: of each call but lint, which shows them itself. (own)
abbrev pub shows_output : ProgramCall → Bool
shows_output (Lint words) = false
shows_output call = true
