use Rattle.std.proofs.Common.{ℕ, ◌<◌}
use Rattle.port_definitions.specs.Defined.{IsParameterAt}
use Rattle.port_definitions.proofs.definition.has_parameter.Given as goal

abbrev pub invariant-loop-at : goal.invariant-loop-at
invariant-loop-at l = (k : ℕ) → k < l.at → IsParameterAt l.text k → ⊥
