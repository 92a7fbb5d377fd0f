use Rattle.std.proofs.Common.{ℕ, ◌<◌}
use Rattle.port_compounds.specs.Guards.{IsStatusAt}
use Rattle.port_compounds.proofs.status.reads_status.Given as goal

abbrev pub invariant-loop-i : goal.invariant-loop-i
invariant-loop-i l = (k : ℕ) → k < l.i → IsStatusAt l.text k → ⊥
