use Rattle.std.proofs.Common.{map, take}
use Rattle.port_joints.specs.Joints.{HaveBecome}
use Rattle.port_joints.proofs.conditions.push_parts.Given as goal

abbrev pub invariant-loop-part : goal.invariant-loop-part
invariant-loop-part l = HaveBecome l.is_condition (map (λ p. p.now) (take l.part-index l.parts)) l.out.items
