use Rattle.std.proofs.Common.{◌≡◌, ℕ, ◌≤◌, ◌<◌, true}
use Rattle.std.specs.Prelude.{slice_index}
use Rattle.port_passes.specs.Rewritten.{is_shown, IsTold}
use Rattle.port_passes.proofs.output.are_told.Given as goal

abbrev pub invariant-loop-at : goal.invariant-loop-at
invariant-loop-at l = (k : ℕ) → l.start ≤ k → k < l.at → is_shown (slice_index l.text k) ≡ true → IsTold l.text k
