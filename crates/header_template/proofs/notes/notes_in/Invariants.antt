use Rattle.std.proofs.Common.{◌≡◌, map, take}
use Rattle.ac_calls.specs.Calls.{macro_call_of}
use Rattle.header_template.specs.Notes.{notes_in}
use Rattle.header_template.proofs.notes.notes_in.Given as goal

abbrev pub invariant-loop-call : goal.invariant-loop-call
invariant-loop-call l = l.notes.items ≡ notes_in l.text (map macro_call_of (take l.call-index l.calls))
