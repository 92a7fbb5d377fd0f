use Rattle.std.proofs.Common.{◌≡◌, drop}
use Rattle.crew_kept.specs.Numbers.{is_own}
use Rattle.crew_kept.proofs.known.is_own.Given as goal

abbrev pub invariant-loop-p : goal.invariant-loop-p
invariant-loop-p l = is_own l.fn.child (drop l.p-index l.fn.placed) ≡ is_own l.fn.child l.fn.placed
