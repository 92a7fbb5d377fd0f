use Rattle.cmd_call.proofs.Pages.{says_nothing}
use Rattle.cmd_status.proofs.fault_lines.tell_written.Goals as goal

pub returns-in-Ok-clause-said : goal.returns-in-Ok-clause-said
returns-in-Ok-clause-said g c = says_nothing _ _ _ _

pub returns-in-Err-clause-said : goal.returns-in-Err-clause-said
returns-in-Err-clause-said g c = c.tell_unwritten.ensures.told
