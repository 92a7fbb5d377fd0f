use Rattle.cmd_call.proofs.Pages.{line_paged}
use Rattle.cmd_status.proofs.fault_lines.tell_own_cache.Goals as goal

pub returns-clause-told : goal.returns-clause-told
returns-clause-told g c = line_paged _ _ _ _ _ _ _ c.tell_file.ensures.told c.explain_own.ensures.paged
