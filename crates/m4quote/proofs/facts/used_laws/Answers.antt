use Rattle.m4quote.proofs.Laws.{used_is_used, used_is_fault}
use Rattle.m4quote.proofs.facts.used_laws.Goals as goal

pub returns-clause-text : goal.returns-clause-text
returns-clause-text c = used_is_used

pub returns-clause-fault : goal.returns-clause-fault
returns-clause-fault c = used_is_fault
