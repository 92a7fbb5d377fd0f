use Rattle.crew_progress.specs.Child.{child_text, child_line}
use Rattle.crew_progress.proofs.child.child_line.Goals as goal

pub returns : goal.returns
unfolding child_line
returns c = c.marked.ensures (child_text c.args.number c.args.job.now) (c.put_child.ensures _ c.empty-row.ensures)
