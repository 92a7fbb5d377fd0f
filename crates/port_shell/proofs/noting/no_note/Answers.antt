use Rattle.std.proofs.Common.{subst, sym}
use Rattle.port_shell.specs.Formed as specs
use Rattle.port_shell.proofs.noting.no_note.Goals as goal

pub returns : goal.returns
returns c = subst (specs.IsNote c.args.idioms) (sym c.new.ensures.items) specs.IsNote.nothing
