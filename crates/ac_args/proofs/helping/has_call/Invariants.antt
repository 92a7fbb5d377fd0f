use Rattle.std.proofs.Common.{◌≡◌, drop}
use Rattle.m4quote.specs.ItemValue.{views}
use Rattle.ac_args.specs.Help.{has_call}
use Rattle.ac_args.proofs.helping.has_call.Given as goal

abbrev pub invariant-loop-item : goal.invariant-loop-item
invariant-loop-item l = has_call l.name (views (drop l.item-index l.items)) ≡ has_call l.name (views l.items)
