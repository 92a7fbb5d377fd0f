use Rattle.std.proofs.Common.{refl}
use Rattle.port_parts.proofs.Steps.{on_true}
use Rattle.port_joints.specs.Joints as specs
use Rattle.port_joints.proofs.joints.begins_after.Goals as goal

pub returns : goal.returns
returns c = on_true (λ may. specs.BeginsOperand.negated c.args.end c.requires.negation (c.if-not-begins_plain.ensures refl) may) c.may_negate.result c.may_negate.ensures
