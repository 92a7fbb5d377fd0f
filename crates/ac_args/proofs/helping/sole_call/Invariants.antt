use Rattle.std.proofs.Common.{◌≡◌, drop}
use Rattle.m4quote.specs.ItemValue.{views}
use Rattle.ac_args.specs.Help.{sole_call}
use Rattle.ac_args.proofs.helping.sole_call.Given as goal

abbrev pub invariant-loop-i : goal.invariant-loop-i
invariant-loop-i l = sole_call l.name (views (drop l.i l.items)) ≡ sole_call l.name (views l.items)
