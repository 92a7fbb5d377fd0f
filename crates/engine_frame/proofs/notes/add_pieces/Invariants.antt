use Rattle.std.proofs.Common.{◌≡◌, ◌++◌, take}
use Rattle.engine_frame.specs.Told.{entries_of}
use Rattle.engine_frame.proofs.notes.add_pieces.Given as goal

abbrev pub invariant-loop-note : goal.invariant-loop-note
invariant-loop-note l = l.log ≡ l.fn.log ++ entries_of (take l.note-index l.notes)
