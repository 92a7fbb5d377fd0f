use Rattle.port_joints.proofs.Becoming.{stepped}
use Rattle.port_joints.proofs.conditions.push_part.Goals as goal

pub returns : goal.returns
returns c = stepped c.args.is_condition c.args.part.now _ _ _ c.in_ok-text.ensures c.in_ok-push.ensures.items
