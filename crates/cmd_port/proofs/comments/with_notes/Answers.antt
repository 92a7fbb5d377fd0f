use Rattle.std.proofs.Common.{subst, sym}
use Rattle.cmd_port.specs.Ported as specs
use Rattle.cmd_port.proofs.comments.with_notes.Goals as goal

pub put_notes-requires : goal.put_notes-requires
put_notes-requires c = record { begun = subst (specs.IsCommented c.args.text.now 0) (sym c.new.ensures.items) specs.IsCommented.begun }
