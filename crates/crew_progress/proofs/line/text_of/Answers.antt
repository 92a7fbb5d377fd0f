use Rattle.crew_progress.proofs.Cutting.{none_left, some_left}
use Rattle.crew_progress.proofs.line.text_of.Goals as goal

pub returns-then-ended-started : goal.returns-then-ended-started
returns-then-ended-started c = none_left _ _ _ _ c.erasure.ensures c.if-ended-started.true

pub returns : goal.returns
returns c = some_left _ _ _ _ _ c.after_erasure.ensures c.line_of.ensures c.if-ended-started.false
