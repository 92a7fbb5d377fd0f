use Rattle.std.proofs.Common.{◌≡◌, ◌++◌, drop, map}
use Rattle.deftable.proofs.texts.copies.Given as goal

abbrev pub invariant-loop-slice : goal.invariant-loop-slice
invariant-loop-slice l = l.copies.items ++ map (λ s. s.now) (drop l.slice-index l.slices) ≡ map (λ s. s.now) l.slices
