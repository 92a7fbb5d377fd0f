use Rattle.cmd_filter.specs.Filtered.{before, whole}
use Rattle.cmd_filter.proofs.whole.source_part.Goals as goal

pub returns-in-Some : goal.returns-in-Some
returns-in-Some c = before c.in-Some.ensures.parted

pub returns-in-None : goal.returns-in-None
returns-in-None c = whole c.in-None.ensures.no_marker
