use Rattle.port_parts.proofs.Steps.{on_true}
use Rattle.port_joints.proofs.joints.is_operand_begun.Goals as goal

pub returns : goal.returns
returns c = on_true (λ tests. record { tests = tests; begins = c.requires }) c.is_one_after.result c.is_one_after.ensures
