use Rattle.ac_macros.proofs.LimitLemmas.{plain_keeps, question_keeps}
use Rattle.ac_macros.proofs.limits.lists_are_within_limits.Goals as goal

pub returns-clause-statement : goal.returns-clause-statement
returns-clause-statement c = λ lists m at args d e. plain_keeps lists m at args (d, e)

pub returns-clause-question : goal.returns-clause-question
returns-clause-question c = λ lists m args d q. question_keeps lists m args (d, q)
