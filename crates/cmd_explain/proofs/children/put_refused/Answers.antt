use Rattle.cmd_call.proofs.Pages.{pages_then}
use Rattle.cmd_explain.proofs.children.put_refused.Goals as goal

pub returns : goal.returns
returns g c = record { paged = pages_then _ _ _ _ _ _ c.put_made.ensures.paged (pages_then _ _ _ _ _ _ c.explain_child.ensures.paged (pages_then _ _ _ _ _ _ c.explain_null.ensures.paged c.explain_cache.ensures.paged)) }
