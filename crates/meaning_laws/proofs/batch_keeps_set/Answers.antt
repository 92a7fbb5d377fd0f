use Rattle.meaning_laws.proofs.BatchLemmas.{batch_keeps_set}
use Rattle.meaning_laws.proofs.batch_keeps_set.Goals as goal

pub returns : goal.returns
returns c = record { set = batch_keeps_set }
