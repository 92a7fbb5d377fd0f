use Rattle.meaning_laws.proofs.BatchLemmas.{batch_asks_once}
use Rattle.meaning_laws.proofs.batch_asks_once.Goals as goal

pub returns : goal.returns
returns c = record { once = batch_asks_once }
