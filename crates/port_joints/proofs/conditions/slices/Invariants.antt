use Rattle.std.proofs.Common.{◌≡◌, map, take}
use Rattle.port_joints.proofs.conditions.slices.Given as goal

abbrev pub invariant-loop-text : goal.invariant-loop-text
invariant-loop-text l = map (λ p. p.now) l.out.items ≡ take l.text-index l.texts
