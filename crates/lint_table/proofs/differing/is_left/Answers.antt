use Rattle.lint_table.proofs.Listed.{any_listed}
use Rattle.lint_table.specs.Lefts.{lefts, is_left}
use Rattle.lint_table.proofs.differing.is_left.Goals as goal

pub returns : goal.returns
unfolding is_left
returns c = any_listed c.has.result c.args.code.now c.lefts.result.now lefts c.has.ensures c.lefts.ensures
