use Rattle.port_setup.specs.Needed.{looking}
use Rattle.port_setup.proofs.Each.{any_listed}
use Rattle.port_setup.proofs.needing.is_looking.Goals as goal

pub returns : goal.returns
returns c = any_listed c.is_one_of.result c.args.name.now c.looking.result.now looking c.is_one_of.ensures c.looking.ensures
