use Rattle.std.proofs.Common.{◌≡◌, ◌++◌, take}
use Rattle.engine_frame.proofs.notes.add_entries.Given as goal

abbrev pub invariant-loop-entry : goal.invariant-loop-entry
invariant-loop-entry l = l.log ≡ l.fn.log ++ take l.entry-index l.entries
