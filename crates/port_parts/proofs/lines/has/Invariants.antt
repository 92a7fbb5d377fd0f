use Rattle.std.proofs.Common.{ℕ, ◌<◌, ◌+◌, length}
use Rattle.port_parts.specs.Places.{IsWord}
use Rattle.port_parts.proofs.lines.has.Given as goal

abbrev pub invariant-loop-i : goal.invariant-loop-i
invariant-loop-i l = (k : ℕ) → k < l.i → IsWord l.text k l.word (k + length l.word) → ⊥
