use Rattle.std.proofs.Common.{map}
use Rattle.port_joints.proofs.Becoming.{all_parts}
use Rattle.port_joints.proofs.conditions.push_all.Goals as goal

pub returns-then-branch : goal.returns-then-branch
returns-then-branch c =
    all_parts (map (λ p. p.now) c.args.parts.now) (map (λ p. p.now) c.args.front.now) c.args.last.now _ _ _ c.push_default.result c.requires.split c.if-branch.true c.in_ok-push_parts.ensures c.push_default.ensures
