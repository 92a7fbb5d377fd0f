-- The entries of the texts so far.
use Rattle.std.proofs.Common.{◌≡◌, take}
use Rattle.cmd_call.specs.Given.{entries_of}
use Rattle.cmd_call.proofs.process.entries_of.Given as goal

abbrev pub invariant-loop-text : goal.invariant-loop-text
invariant-loop-text l = l.entries.items ≡ entries_of (take l.text-index l.texts)
