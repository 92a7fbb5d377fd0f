use Rattle.port_messages.specs.Told as specs
use Rattle.port_messages.proofs.speaking.message_for.Goals as goal

pub returns-in-Some : goal.returns-in-Some
returns-in-Some c = specs.Speaks.prints c.args.given.now _ c.requires c.in-Some.ensures.0 c.in-Some.ensures.1
