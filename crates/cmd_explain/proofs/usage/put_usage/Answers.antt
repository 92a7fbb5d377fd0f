use Rattle.cmd_call.proofs.Pages.{pages_then}
use Rattle.cmd_explain.proofs.usage.put_usage.Goals as goal

pub returns : goal.returns
returns g c = record { paged = pages_then _ _ _ _ _ _ c.put_window.ensures.paged c.put_misuse.ensures.paged }
