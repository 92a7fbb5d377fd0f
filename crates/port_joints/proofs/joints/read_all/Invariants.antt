use Rattle.port_joints.specs.Joints.{IsBegun}
use Rattle.port_joints.proofs.joints.read_all.Given as goal

abbrev pub invariant-loop-at : goal.invariant-loop-at
invariant-loop-at l = IsBegun l.operator l.joint l.text l.reading.is_first l.reading.at l.reading.out.items
