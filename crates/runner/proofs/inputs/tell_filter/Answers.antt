use Rattle.cmd_call.proofs.Pages.{line_paged}
use Rattle.runner.proofs.inputs.tell_filter.Goals as goal

pub returns-clause-told : goal.returns-clause-told
returns-clause-told g c = line_paged _ _ _ _ _ _ _ c.tell.ensures.told c.explain_filter.ensures.paged
