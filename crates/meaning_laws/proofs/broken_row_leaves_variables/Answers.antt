use Rattle.meaning_laws.proofs.CommandLemmas.{broken_row_leaves_variables}
use Rattle.meaning_laws.proofs.broken_row_leaves_variables.Goals as goal

pub returns : goal.returns
returns c = record { unchanged = broken_row_leaves_variables }
