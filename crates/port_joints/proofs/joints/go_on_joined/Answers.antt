use Rattle.port_joints.proofs.Becoming.{on_ok, joined_step}
use Rattle.port_joints.proofs.joints.go_on_joined.Goals as goal

pub returns : goal.returns
returns c =
    on_ok (joined_step c.args.operator.now c.args.joint.now c.args.text.now _ _ _ c.args.at c.args.next _ _ _ c.requires.begun c.requires.operand c.requires.is) c.write_joined.result c.write_joined.ensures
