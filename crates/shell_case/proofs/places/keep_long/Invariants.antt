use Rattle.std.proofs.Common.{◌≡◌, take}
use Rattle.shell_case.specs.Fronts.{keep_long}
use Rattle.shell_case.proofs.places.keep_long.Given as goal

abbrev pub invariant-loop-i : goal.invariant-loop-i
invariant-loop-i l = l.kept.items ≡ take l.i (keep_long l.len l.flags l.lens)
