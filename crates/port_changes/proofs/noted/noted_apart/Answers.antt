use Rattle.std.proofs.Common.{subst, sym}
use Rattle.ac_calls.specs.Calls.{macro_call_of}
use Rattle.port_spots.specs.Put.{IsNoted}
use Rattle.port_spots.specs.Put as specs
use Rattle.port_changes.proofs.noted.noted_apart.Goals as goal

pub returns-in_ok-end_line : goal.returns-in_ok-end_line
returns-in_ok-end_line c =
    subst (IsNoted c.args.text.now (macro_call_of c.args.call.now)) (sym c.in_ok-end_line.ensures) (specs.IsNoted.lined _ c.args.indent.now c.requires.put c.requires.indent)
