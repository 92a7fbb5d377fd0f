use Rattle.std.proofs.Common.{ℕ, ◌<◌}
use Rattle.port_setup.specs.Needed.{IsDropAt}
use Rattle.port_setup.proofs.needing.lacks_drop.Given as goal

abbrev pub invariant-loop-at : goal.invariant-loop-at
invariant-loop-at l = (k : ℕ) → k < l.at → IsDropAt l.list k → ⊥
