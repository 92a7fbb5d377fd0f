use Rattle.port_setup.specs.Needed.{making}
use Rattle.port_setup.proofs.Each.{any_listed}
use Rattle.port_setup.proofs.needing.is_making.Goals as goal

pub returns : goal.returns
returns c = any_listed c.is_one_of.result c.args.name.now c.making.result.now making c.is_one_of.ensures c.making.ensures
