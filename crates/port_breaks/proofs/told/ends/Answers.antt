use Rattle.port_breaks.specs.Breaks as specs
use Rattle.port_breaks.proofs.told.ends.Goals as goal

pub returns : goal.returns
returns c = λ yes. specs.IsTold.ends c.args.status.now c.requires (c.is_digit.ensures yes).0 (c.is_digit.ensures yes).1
