use Rattle.m4quote.specs.ItemValue.{views}
use Rattle.port_compounds.proofs.Steps.{called_by}
use Rattle.port_compounds.proofs.guards.is_call.Goals as goal

pub returns-in-Ok : goal.returns-in-Ok
returns-in-Ok c = λ is. called_by views c.args.text.now c.in-Ok.items.items c.as_slice.result.now c.as_slice.ensures.value c.in-Ok.ensures.sound (c.are_command.ensures is)
