use Rattle.std.proofs.Common.{subst, sym}
use Rattle.ac_calls.specs.Calls.{macro_call_of}
use Rattle.port_spots.specs.Put.{IsPut}
use Rattle.port_spots.specs.Put as specs
use Rattle.port_changes.proofs.readers.kept_until.Goals as goal

pub returns : goal.returns
returns c =
    subst (IsPut c.args.text.now (macro_call_of c.args.call.now)) (sym c.in_ok-put.ensures)
    (specs.IsPut.kept c.args.said.now c.args.indent.now c.requires.dropped c.requires.said c.requires.indent)
