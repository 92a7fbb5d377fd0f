use Rattle.std.proofs.Common.{subst, sym}
use Rattle.ac_calls.specs.Calls.{macro_call_of}
use Rattle.port_spots.specs.Put.{IsNoted}
use Rattle.port_spots.specs.Put as specs
use Rattle.port_changes.proofs.noted.with_comment.Goals as goal

pub returns : goal.returns
returns c =
    subst (IsNoted c.args.text.now (macro_call_of c.args.call.now)) (sym c.in_ok-put_comment.ensures)
    (specs.IsNoted.kept _ c.args.said.now c.args.indent.now c.requires.put c.requires.dropped c.requires.said c.requires.indent)
