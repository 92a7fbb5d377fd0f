use Rattle.meaning_laws.proofs.BatchLemmas.{batch_commits}
use Rattle.meaning_laws.proofs.batch_commits.Goals as goal

pub returns : goal.returns
returns c = record { commits = batch_commits }
