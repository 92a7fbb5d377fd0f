use Rattle.std.proofs.Common.{◌≡◌, flat_map, take}
use Rattle.deftable.proofs.bytes.short_join.Given as goal

abbrev pub invariant-loop-part : goal.invariant-loop-part
invariant-loop-part l = l.short ≡ flat_map (λ part. part.now) (take l.part-index l.parts)
