use Rattle.cmd_call.proofs.Pages.{pages_then}
use Rattle.cmd_explain.proofs.files.put_unread.Goals as goal

pub returns : goal.returns
returns g c = record { paged = pages_then _ _ _ _ _ _ c.explain_error.ensures.paged c.explain_old_name.ensures.paged }
