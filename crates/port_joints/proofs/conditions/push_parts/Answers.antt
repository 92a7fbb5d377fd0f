use Rattle.std.proofs.Common.{true, [], subst, sym}
use Rattle.port_joints.specs.Joints.{HaveBecome}
use Rattle.port_joints.specs.Joints as specs
use Rattle.port_joints.proofs.conditions.push_parts.Goals as goal

pub loop-part-init : goal.loop-part-init
loop-part-init c = subst (HaveBecome true []) (sym c.requires) specs.HaveBecome.begun
