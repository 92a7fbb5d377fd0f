use Rattle.ac_statement.proofs.Standings.{inside_is, inside_fault}
use Rattle.ac_statement.proofs.facts.inside_laws.Goals as goal

pub returns-clause-text : goal.returns-clause-text
returns-clause-text c = inside_is

pub returns-clause-fault : goal.returns-clause-fault
returns-clause-fault c = inside_fault
