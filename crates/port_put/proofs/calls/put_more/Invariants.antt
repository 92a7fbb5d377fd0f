use Rattle.std.proofs.Common.{◌≡◌, ◌++◌, map, take}
use Rattle.std.specs.List.{flat_map}
use Rattle.port_put.specs.Calls.{further}
use Rattle.port_put.proofs.calls.put_more.Given as goal

abbrev pub invariant-loop-part : goal.invariant-loop-part
invariant-loop-part l = l.out.items ≡ l.initial.out.items ++ flat_map further (map (λ p. p.now) (take l.part-index l.parts))
