use Rattle.std.proofs.Common.{◌≡◌, ◌+◌, ◌≤◌, drop}
use Rattle.crew_kept.specs.Numbers.{own_below}
use Rattle.crew_kept.proofs.known.own_below.Given as goal

abbrev pub invariant-loop-p : goal.invariant-loop-p
invariant-loop-p l = (l.below + own_below l.fn.child (drop l.p-index l.fn.placed) ≡ own_below l.fn.child l.fn.placed) × (l.below ≤ l.p-index)
