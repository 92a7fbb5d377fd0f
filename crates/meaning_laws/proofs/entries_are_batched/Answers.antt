use Rattle.meaning.proofs.Batches.{entries_are}
use Rattle.meaning_laws.proofs.entries_are_batched.Goals as goal

pub returns : goal.returns
returns c = record { entries = entries_are }
