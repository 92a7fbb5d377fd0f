use Rattle.std.proofs.Common.{ℕ, ◌<◌, ◌≤◌}
use Rattle.std.specs.Prelude.{◌⊎◌}
use Rattle.port_definitions.specs.Defined.{IsWordAt}
use Rattle.port_definitions.specs.Unused.{IsRemark}
use Rattle.port_definitions.proofs.unused.is_uncalled.Given as goal

abbrev pub invariant-loop-at : goal.invariant-loop-at
invariant-loop-at l = (k : ℕ) → k < l.at → IsWordAt l.text k l.name → ((l.start ≤ k) × (k < l.end)) ⊎ IsRemark l.text l.end k
