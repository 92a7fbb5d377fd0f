use Rattle.cmd_call.proofs.Pages.{pages_then, says_nothing}
use Rattle.cmd_explain.proofs.made.explain_made.Goals as goal

pub files-init : goal.files-init
files-init g c = says_nothing _ _ _ _

pub files-preserved : goal.files-preserved
files-preserved g c = pages_then _ _ _ _ _ _ c.files.invariant c.put_made.ensures.paged
