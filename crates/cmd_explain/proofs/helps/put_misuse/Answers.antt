use Rattle.cmd_call.proofs.Pages.{pages_then}
use Rattle.cmd_explain.proofs.helps.put_misuse.Goals as goal

pub returns : goal.returns
returns g c = record { paged = pages_then _ _ _ _ _ _ c.put_words.ensures.paged c.put_key.ensures.paged }
