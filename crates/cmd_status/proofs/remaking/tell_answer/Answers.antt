use Rattle.cmd_status.proofs.Reasons.{no_fault_said}
use Rattle.cmd_status.proofs.remaking.tell_answer.Goals as goal

pub returns-in-Ok-clause-said : goal.returns-in-Ok-clause-said
returns-in-Ok-clause-said g c = no_fault_said _ _ _ _ _ _ c.in-Ok.is
