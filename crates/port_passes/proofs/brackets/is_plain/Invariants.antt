use Rattle.std.proofs.Common.{◌≡◌, ℕ, ◌≤◌, ◌<◌, true}
use Rattle.std.specs.Prelude.{slice_index}
use Rattle.port_passes.specs.Rewritten.{is_bracket, IsInCall}
use Rattle.port_passes.proofs.brackets.is_plain.Given as goal

abbrev pub invariant-loop-at : goal.invariant-loop-at
invariant-loop-at l = (k : ℕ) → l.arg.start ≤ k → k < l.at → is_bracket (slice_index l.text k) ≡ true → IsInCall l.text l.arg k
