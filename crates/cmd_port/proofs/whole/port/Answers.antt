use Rattle.std.specs.Prelude.{option_map}
use Rattle.cmd_port.specs.Asked.{package_of}
use Rattle.cmd_port.proofs.Steps.{kept_ported, kept_stays}
use Rattle.cmd_port.proofs.whole.port.Goals as goal

pub returns-then-branch-clause-ported : goal.returns-then-branch-clause-ported
returns-then-branch-clause-ported c = kept_ported c.args.idioms (option_map package_of c.args.naming) c.port_accepted.result c.args.text.now c.port_accepted.ensures

pub returns-then-branch-clause-stays : goal.returns-then-branch-clause-stays
returns-then-branch-clause-stays c = λ accepted none. kept_stays (option_map package_of c.args.naming) c.port_accepted.result c.args.text.now accepted none c.port_accepted.ensures
