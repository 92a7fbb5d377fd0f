use Rattle.m4quote.proofs.Laws.{outcome_is_spelling, outcome_is_fault}
use Rattle.m4quote.proofs.facts.reading_laws.Goals as goal

pub returns-clause-items : goal.returns-clause-items
returns-clause-items c = outcome_is_spelling

pub returns-clause-fault : goal.returns-clause-fault
returns-clause-fault c = outcome_is_fault
