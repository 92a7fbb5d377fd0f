use Rattle.std.proofs.Common.{◌≡◌, ℕ, ◌<◌, ◌+◌, [], ◌∷◌, slice_range}
use Rattle.port_echo.proofs.printed.has_two_spaces.Given as goal

abbrev pub invariant-loop-i : goal.invariant-loop-i
invariant-loop-i l = (k : ℕ) → k < l.i → slice_range l.text k (k + 2) ≡ 32 ∷ 32 ∷ [] → ⊥
