use Rattle.cmd_status.proofs.Reasons.{no_put_said, put_said}
use Rattle.cmd_status.proofs.reporting.tell_refused.Goals as goal

pub returns-in-Some-clause-said : goal.returns-in-Some-clause-said
returns-in-Some-clause-said g c = put_said _ _ _ _ _ _ _ c.in-Some.number c.in-Some.is c.tell_put.ensures.told c.explain_put.ensures.paged

pub returns-in_default-clause-said : goal.returns-in_default-clause-said
returns-in_default-clause-said g c = no_put_said _ _ _ _ _ c.in_default.is
