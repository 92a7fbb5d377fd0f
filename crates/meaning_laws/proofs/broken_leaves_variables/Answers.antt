use Rattle.meaning_laws.proofs.CommandLemmas.{broken_leaves_variables}
use Rattle.meaning_laws.proofs.broken_leaves_variables.Goals as goal

pub returns : goal.returns
returns c = record { unchanged = broken_leaves_variables }
