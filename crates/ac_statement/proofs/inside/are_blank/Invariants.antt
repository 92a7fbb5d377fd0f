use Rattle.std.proofs.Common.{◌≡◌, drop}
use Rattle.m4quote.specs.ItemValue.{views}
use Rattle.ac_statement.specs.Inside.{are_blank}
use Rattle.ac_statement.proofs.inside.are_blank.Given as goal

abbrev pub invariant-loop-item : goal.invariant-loop-item
invariant-loop-item l = are_blank (views (drop l.item-index l.items)) ≡ are_blank (views l.items)
