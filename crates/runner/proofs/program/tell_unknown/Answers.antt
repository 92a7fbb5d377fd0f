use Rattle.cmd_call.proofs.Pages.{line_paged}
use Rattle.runner.proofs.program.tell_unknown.Goals as goal

pub returns-clause-told : goal.returns-clause-told
returns-clause-told g c = line_paged _ _ _ _ _ _ _ c.tell_usage.ensures.told c.explain_usage.ensures.paged
