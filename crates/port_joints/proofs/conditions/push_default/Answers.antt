use Rattle.port_joints.proofs.Becoming.{defaulted}
use Rattle.port_joints.proofs.conditions.push_default.Goals as goal

pub returns : goal.returns
returns c = λ _. defaulted c.args.part.now _ _ _ c.in_ok-text.ensures.equal c.in_ok-push.ensures.items
