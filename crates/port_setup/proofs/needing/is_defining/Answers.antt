use Rattle.port_setup.specs.Needed.{defining}
use Rattle.port_setup.proofs.Each.{any_listed}
use Rattle.port_setup.proofs.needing.is_defining.Goals as goal

pub returns : goal.returns
returns c = any_listed c.is_one_of.result c.args.name.now c.defining.result.now defining c.is_one_of.ensures c.defining.ensures
