use Rattle.cmd_call.proofs.Pages.{pages_then}
use Rattle.cmd_explain.proofs.page.put_words.Goals as goal

pub returns-in-Ok : goal.returns-in-Ok
returns-in-Ok g c = record { paged = pages_then _ _ _ _ _ _ c.explain_words.ensures.paged c.put_lines.ensures.paged }
