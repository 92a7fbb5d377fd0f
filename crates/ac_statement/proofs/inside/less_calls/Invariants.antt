use Rattle.std.proofs.Common.{◌≡◌, drop}
use Rattle.m4quote.specs.ItemValue.{views}
use Rattle.ac_statement.specs.Inside.{less_calls}
use Rattle.ac_statement.proofs.inside.less_calls.Given as goal

abbrev pub invariant-loop-item : goal.invariant-loop-item
invariant-loop-item l = less_calls l.left (views (drop l.item-index l.items)) ≡ less_calls l.count (views l.items)
