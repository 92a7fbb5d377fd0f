use Rattle.std.proofs.Common.{◌≡◌, ◌++◌, None, drop}
use Rattle.options_line.specs.Kept.{kept_from}
use Rattle.options_line.proofs.kept.kept_in.Given as goal

abbrev pub invariant-loop-argument : goal.invariant-loop-argument
invariant-loop-argument l = l.kept ++ kept_from l.awaited (drop l.argument-index l.args) ≡ kept_from None l.args
