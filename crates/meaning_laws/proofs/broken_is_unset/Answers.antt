use Rattle.meaning_laws.proofs.CachedTests.{broken_is_unset}
use Rattle.meaning_laws.proofs.broken_is_unset.Goals as goal

pub returns : goal.returns
returns c = record { unset = broken_is_unset }
