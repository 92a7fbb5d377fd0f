use Rattle.std.proofs.Common.{subst, sym}
use Rattle.ac_calls.specs.Calls.{macro_call_of}
use Rattle.port_spots.specs.Put.{IsPut}
use Rattle.port_spots.specs.Put as specs
use Rattle.port_changes.proofs.changes.put_apart.Goals as goal

pub returns-in_ok-end_line : goal.returns-in_ok-end_line
returns-in_ok-end_line c =
    subst (IsPut c.args.text.now (macro_call_of c.args.call.now)) (sym c.in_ok-end_line.ensures) (specs.IsPut.lined _ c.args.indent.now c.requires.put c.requires.indent)
