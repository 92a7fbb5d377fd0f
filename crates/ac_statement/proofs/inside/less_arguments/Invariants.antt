use Rattle.std.proofs.Common.{◌≡◌, drop, map}
use Rattle.m4quote.specs.ItemValue.{span}
use Rattle.ac_statement.specs.Inside.{less_arguments}
use Rattle.ac_statement.proofs.inside.less_arguments.Given as goal

abbrev pub invariant-loop-arg : goal.invariant-loop-arg
invariant-loop-arg l = less_arguments l.left (map span (drop l.arg-index l.args)) ≡ less_arguments l.count (map span l.args)
