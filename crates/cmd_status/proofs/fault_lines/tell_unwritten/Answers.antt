use Rattle.cmd_call.proofs.Pages.{line_paged}
use Rattle.cmd_status.proofs.fault_lines.tell_unwritten.Goals as goal

pub returns : goal.returns
returns g c = record { told = line_paged _ _ _ _ _ _ _ c.tell_file.ensures.told c.explain_error.ensures.paged }
