use Rattle.meaning_laws.proofs.Kept.{set_stays_set}
use Rattle.meaning_laws.proofs.set_stays_set.Goals as goal

pub returns : goal.returns
returns c = record { set = set_stays_set }
