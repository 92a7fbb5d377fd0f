use Rattle.template.proofs.Joins.{Fed-begins, Fed-more, Fed-ends, Fed-so_far, Fed-whole}
use Rattle.template.proofs.pieces.pieces_join.Goals as goal

pub returns-clause-begins : goal.returns-clause-begins
returns-clause-begins c = Fed-begins

pub returns-clause-goes_on : goal.returns-clause-goes_on
returns-clause-goes_on c = Fed-more

pub returns-clause-ends : goal.returns-clause-ends
returns-clause-ends c = Fed-ends

pub returns-clause-so_far : goal.returns-clause-so_far
returns-clause-so_far c = Fed-so_far

pub returns-clause-whole : goal.returns-clause-whole
returns-clause-whole c = Fed-whole
