use Rattle.meaning_laws.proofs.BatchLemmas.{batch_asks_few}
use Rattle.meaning_laws.proofs.batch_asks_few.Goals as goal

pub returns : goal.returns
returns c = record { within = batch_asks_few }
