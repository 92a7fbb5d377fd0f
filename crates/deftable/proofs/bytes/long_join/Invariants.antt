use Rattle.std.proofs.Common.{◌≡◌, flat_map, take}
use Rattle.deftable.proofs.bytes.long_join.Given as goal

abbrev pub invariant-loop-part : goal.invariant-loop-part
invariant-loop-part l = l.bytes.items ≡ flat_map (λ part. part.now) (take l.part-index l.parts)
