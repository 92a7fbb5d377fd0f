use Rattle.crew_kept.proofs.Recorded.{complete}
use Rattle.crew_kept.proofs.laws.replies_are_recorded.Goals as goal

pub returns-clause-complete : goal.returns-clause-complete
returns-clause-complete c = complete
