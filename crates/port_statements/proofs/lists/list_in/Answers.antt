use Rattle.std.proofs.Common.{refl}
use Rattle.port_places.specs.Outside.{inner}
use Rattle.port_statements.proofs.lists.list_in.Goals as goal

pub returns : goal.returns
returns c = inner c.args.call.now c.args.arg c.requires.call c.requires.arg refl c.requires.opens c.at_most.ensures.0 c.at_most.ensures.1
