use Rattle.std.proofs.Common.{◌≡◌, drop}
use Rattle.options.specs.Opening.{marks_one}
use Rattle.options.proofs.precious.is_mark_of_one.Given as goal

abbrev pub invariant-loop-of : goal.invariant-loop-of
invariant-loop-of l = marks_one (drop l.of-index l.precious) l.name ≡ marks_one l.precious l.name
