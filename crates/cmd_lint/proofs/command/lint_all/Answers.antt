use Rattle.cmd_lint.proofs.Saying.{said_by_names, said_by_none}
use Rattle.cmd_lint.proofs.command.lint_all.Goals as goal

pub returns-then-has_name-clause-said : goal.returns-then-has_name-clause-said
returns-then-has_name-clause-said g c = said_by_names _ _ _ _ _ _ c.args.words.now c.has_name.result _ c.has_name.ensures c.if-has_name.true c.lint_names.ensures.said

pub returns-else-has_name-clause-said : goal.returns-else-has_name-clause-said
returns-else-has_name-clause-said g c = said_by_none _ _ _ _ _ _ c.args.words.now c.has_name.result _ c.has_name.ensures c.if-has_name.false c.lint_here.ensures.said
