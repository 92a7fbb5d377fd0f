use Rattle.std.proofs.Common.{◌≡◌, ◌++◌, take}
use Rattle.engine_frame.proofs.notes.add_notes.Given as goal

abbrev pub invariant-loop-note : goal.invariant-loop-note
invariant-loop-note l = l.notes ≡ l.fn.notes ++ take l.note-index l.more
