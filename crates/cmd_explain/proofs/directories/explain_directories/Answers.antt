use Rattle.cmd_call.proofs.Pages.{pages_then, says_nothing}
use Rattle.cmd_explain.proofs.directories.explain_directories.Goals as goal

pub directories-init : goal.directories-init
directories-init g c = says_nothing _ _ _ _

pub directories-preserved : goal.directories-preserved
directories-preserved g c = pages_then _ _ _ _ _ _ c.directories.invariant c.put_directory.ensures.paged
