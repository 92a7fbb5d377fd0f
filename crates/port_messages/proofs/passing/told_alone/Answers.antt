use Rattle.port_breaks.proofs.Breaking.{made_from}
use Rattle.port_messages.specs.Told.{IsNoted}
use Rattle.port_messages.proofs.passing.told_alone.Goals as goal

pub returns : goal.returns
returns c = made_from (IsNoted c.args.text.now) c.args.text.now c.as_slice.result.now c.in_ok-edits.edits.items _ c.as_slice.ensures.value c.in_ok-edits.ensures c.in_ok-out.ensures
