use Rattle.cmd_call.proofs.Pages.{pages_then, says_nothing}
use Rattle.cmd_explain.proofs.page.put_lines.Goals as goal

pub lines-init : goal.lines-init
lines-init g c = says_nothing _ _ _ _

pub lines-preserved : goal.lines-preserved
lines-preserved g c = pages_then _ _ _ _ _ _ c.lines.invariant c.explain_words.ensures.paged
