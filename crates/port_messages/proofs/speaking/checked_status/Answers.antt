use Rattle.std.proofs.Common.{refl}
use Rattle.port_messages.specs.Told as specs
use Rattle.port_messages.proofs.speaking.checked_status.Goals as goal

pub returns-then-is_digit : goal.returns-then-is_digit
returns-then-is_digit c = let p = c.if-is_digit.ensures refl in specs.Speaks.ends c.args.status.now c.requires p.0 p.1
