use Rattle.meaning_laws.proofs.BatchLemmas.{batch_asks_unset}
use Rattle.meaning_laws.proofs.batch_asks_unset.Goals as goal

pub returns : goal.returns
returns c = record { unset = batch_asks_unset }
