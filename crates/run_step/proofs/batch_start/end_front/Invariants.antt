use Rattle.std.proofs.Common.{◌≡◌, drop}
use Rattle.run_step.specs.Waiting.{any_asks, front_end}
use Rattle.run_step.proofs.batch_start.end_front.Given as goal

abbrev pub invariant-loop-i : goal.invariant-loop-i
invariant-loop-i l =
    (any_asks (drop l.i l.entries) ≡ any_asks l.entries) × (front_end (drop l.i l.entries) l.store ≡ front_end l.entries l.fn.store)
