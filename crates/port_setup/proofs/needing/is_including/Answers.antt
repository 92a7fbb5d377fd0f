use Rattle.port_setup.specs.Needed.{including}
use Rattle.port_setup.proofs.Each.{any_listed}
use Rattle.port_setup.proofs.needing.is_including.Goals as goal

pub returns : goal.returns
returns c = any_listed c.is_one_of.result c.args.name.now c.including.result.now including c.is_one_of.ensures c.including.ensures
