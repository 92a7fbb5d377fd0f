use Rattle.crew_progress.proofs.Parts.{either_told}
use Rattle.crew_progress.proofs.subject.type_in.Goals as goal

pub returns : goal.returns
returns c = either_told _ _ _ _ _ c.or.ensures c.named-second.ensures c.named.ensures
