use Rattle.std.proofs.Common.{ℕ, ◌<◌, ◌≤◌}
use Rattle.port_definitions.specs.Defined.{IsWordAt}
use Rattle.port_definitions.proofs.definition.is_used.Given as goal

abbrev pub invariant-loop-at : goal.invariant-loop-at
invariant-loop-at l = (k : ℕ) → l.start ≤ k → k < l.at → IsWordAt l.text k l.name → ⊥
