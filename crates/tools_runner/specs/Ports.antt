-- Which command rewrites a source.
use Rattle.std.specs.Prelude.{ℕ, List}
use Rattle.cmd_call.specs.Calls.{ProgramCall, Port}

-- If the program is asked to rewrite a source, this holds of the words after `port`. (own)
abbrev pub IfPort : ProgramCall → (List (List ℕ) → Type 0) → Type 0
IfPort (Port words) goes_on = goes_on words
IfPort call goes_on = Unit {0}
