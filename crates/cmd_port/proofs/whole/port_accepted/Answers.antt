use Rattle.cmd_port.proofs.Steps.{unchanged_kept}
use Rattle.cmd_port.proofs.whole.port_accepted.Goals as goal

pub returns-in-None : goal.returns-in-None
returns-in-None c = unchanged_kept _ c.unchanged.result c.args.text.now c.requires c.unchanged.ensures
