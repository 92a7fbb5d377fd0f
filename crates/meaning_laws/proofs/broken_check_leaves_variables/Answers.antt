use Rattle.meaning_laws.proofs.CommandLemmas.{broken_check_leaves_variables}
use Rattle.meaning_laws.proofs.broken_check_leaves_variables.Goals as goal

pub returns : goal.returns
returns c = record { unchanged = broken_check_leaves_variables }
