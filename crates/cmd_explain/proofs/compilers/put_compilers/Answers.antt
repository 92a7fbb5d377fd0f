use Rattle.cmd_call.proofs.Pages.{pages_then}
use Rattle.cmd_explain.proofs.compilers.put_compilers.Goals as goal

pub returns : goal.returns
returns g c = record { paged = pages_then _ _ _ _ _ _ c.put_no_compiler.ensures.paged (pages_then _ _ _ _ _ _ c.put_failures.ensures.paged c.put_cut_diagnostics.ensures.paged) }
