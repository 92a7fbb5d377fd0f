use Rattle.cmd_call.proofs.Pages.{line_paged}
use Rattle.cmd_status.proofs.fault_lines.tell_run.Goals as goal

pub returns-clause-told : goal.returns-clause-told
returns-clause-told g c = line_paged _ _ _ _ _ _ _ c.tell_line.ensures.told c.explain_fault.ensures.paged
