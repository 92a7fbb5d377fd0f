use Rattle.lint_table.proofs.Listed.{any_listed}
use Rattle.lint_table.specs.Differences.{differences, is_difference}
use Rattle.lint_table.proofs.differing.is_difference.Goals as goal

pub returns : goal.returns
unfolding is_difference
returns c = any_listed c.has.result c.args.code.now c.differences.result.now differences c.has.ensures c.differences.ensures
