use Rattle.m4quote.proofs.Laws.{bare_value_is_value, bare_value_is_fault}
use Rattle.m4quote.proofs.facts.bare_value_laws.Goals as goal

pub returns-clause-value : goal.returns-clause-value
returns-clause-value c = bare_value_is_value

pub returns-clause-fault : goal.returns-clause-fault
returns-clause-fault c = bare_value_is_fault
