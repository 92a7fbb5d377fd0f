use Rattle.port_joints.proofs.Becoming.{on_ok, kept_step}
use Rattle.port_joints.proofs.joints.go_on_kept.Goals as goal

pub returns : goal.returns
returns c =
    on_ok (kept_step c.args.operator.now c.args.joint.now c.args.text.now _ _ _ c.args.at c.args.after c.args.from c.args.end _ _ _ c.requires.begun c.requires.operand c.requires.is) c.write_kept.result c.write_kept.ensures
