use Rattle.meaning_laws.proofs.BatchLemmas.{batch_stops}
use Rattle.meaning_laws.proofs.batch_stops.Goals as goal

pub returns : goal.returns
returns c = record { stops = batch_stops }
