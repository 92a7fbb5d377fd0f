use Rattle.cmd_port.specs.Ported.{IsCommented}
use Rattle.cmd_port.proofs.comments.put_notes.Given as goal

abbrev pub invariant-loop-note : goal.invariant-loop-note
invariant-loop-note l = IsCommented l.text l.copy.at l.copy.out.items
