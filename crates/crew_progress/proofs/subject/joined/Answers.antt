use Rattle.std.proofs.Common.{[]}
use Rattle.crew_progress.proofs.Parts.{nothing_yet}
use Rattle.crew_progress.proofs.subject.joined.Goals as goal

pub returns : goal.returns
returns c = c.put_front-2.ensures _ (c.put_front.ensures [] (nothing_yet _ c.new-line.ensures))
