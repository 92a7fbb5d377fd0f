use Rattle.std.proofs.Common.{◌≡◌, ℕ, ◌<◌, ◌+◌, [], ◌∷◌, slice_range}
use Rattle.port_put.proofs.calls.has_escaped_end.Given as goal

abbrev pub invariant-loop-i : goal.invariant-loop-i
invariant-loop-i l = (k : ℕ) → k < l.i → slice_range l.text k (k + 2) ≡ 92 ∷ 93 ∷ [] → ⊥
