use Rattle.std.proofs.Common.{◌≡◌}
use Rattle.template.specs.Place.{up}
use Rattle.template.proofs.paths.up.Given as goal

abbrev pub invariant-loop-i : goal.invariant-loop-i
invariant-loop-i l = l.way.items ≡ up l._i
