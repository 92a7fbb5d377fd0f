use Rattle.std.proofs.Common.{subst, sym, true}
use Rattle.port_joints.specs.Joints as specs
use Rattle.port_joints.proofs.joints.read_after.Goals as goal

pub read_whole-requires : goal.read_whole-requires
read_whole-requires c =
    record { begun = subst (specs.IsBegun c.args.operator.now c.args.joint.now c.args.text.now true c.args.at) (sym c.in_ok-out.ensures.items) (specs.IsBegun.first c.requires) }
