use Rattle.port_breaks.specs.Breaks.{IsBreak}
use Rattle.port_breaks.proofs.Breaking.{made_from}
use Rattle.port_breaks.proofs.breaks.broken.Goals as goal

pub returns : goal.returns
returns c = record { broken = made_from (IsBreak c.args.text.now) c.args.text.now c.as_slice.result.now c.in_ok-edits.edits.items _ c.as_slice.ensures.value c.in_ok-edits.ensures c.in_ok-out.ensures }
