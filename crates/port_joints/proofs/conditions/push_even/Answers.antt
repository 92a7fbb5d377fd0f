use Rattle.std.proofs.Common.{map}
use Rattle.port_joints.proofs.Becoming.{ended}
use Rattle.port_joints.proofs.conditions.push_even.Goals as goal

pub returns : goal.returns
returns c = ended (map (λ p. p.now) c.args.parts.now) _ c.push_parts.result c.push_parts.ensures
