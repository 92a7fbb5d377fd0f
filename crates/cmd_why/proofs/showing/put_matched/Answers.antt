use Rattle.cmd_why.proofs.Nearness.{matched_is}
use Rattle.cmd_why.proofs.showing.put_matched.Goals as goal

pub returns-clause-text : goal.returns-clause-text
returns-clause-text c = matched_is _ _ _ _ _ _ _ _ _ c.as_slice.ensures.value c.in_ok-chosen.ensures c.put_chosen.ensures.text
