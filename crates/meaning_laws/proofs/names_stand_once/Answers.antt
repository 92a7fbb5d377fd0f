use Rattle.meaning_laws.proofs.Kept.{names_stand_once}
use Rattle.meaning_laws.proofs.names_stand_once.Goals as goal

pub returns : goal.returns
returns c = record { once = names_stand_once }
