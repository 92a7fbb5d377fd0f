use Rattle.meaning_laws.proofs.Kept.{broken_check_is_unset}
use Rattle.meaning_laws.proofs.broken_check_is_unset.Goals as goal

pub returns : goal.returns
returns c = record { unset = broken_check_is_unset }
