use Rattle.cmd_call.proofs.Pages.{pages_then, says_nothing}
use Rattle.cmd_explain.proofs.doubts.put_doubts.Goals as goal

pub entries-init : goal.entries-init
entries-init g c = says_nothing _ _ _ _

pub returns-in-Some : goal.returns-in-Some
returns-in-Some g c = record { paged = pages_then _ _ _ _ _ _ c.entries.invariant c.put_doubt.ensures.paged }
