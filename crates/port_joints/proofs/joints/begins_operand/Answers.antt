use Rattle.std.proofs.Common.{refl}
use Rattle.port_joints.specs.Joints as specs
use Rattle.port_joints.proofs.joints.begins_operand.Goals as goal

pub returns-then-begins_plain : goal.returns-then-begins_plain
returns-then-begins_plain c = λ _. specs.BeginsOperand.plain (c.if-begins_plain.ensures refl)
