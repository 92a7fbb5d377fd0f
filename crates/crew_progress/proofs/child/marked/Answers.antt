use Rattle.crew_progress.proofs.Children.{whole_row, cut_row}
use Rattle.crew_progress.proofs.child.marked.Goals as goal

pub returns-then-row : goal.returns-then-row
returns-then-row c = λ text h. cut_row _ _ text _ h c.if-row.true c.ended.ensures

pub returns : goal.returns
returns c = λ text h. whole_row _ _ text _ h c.if-row.false c.ended-2.ensures
