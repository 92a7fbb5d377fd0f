use Rattle.std.proofs.Common.{◌≡◌, ◌∷◌, ◌++◌, map, take}
use Rattle.std.specs.List.{flat_map}
use Rattle.port_spots.specs.Put.{below}
use Rattle.port_changes.proofs.noting.put_each.Given as goal

abbrev pub invariant-loop-name : goal.invariant-loop-name
invariant-loop-name l = l.out.items ≡ l.initial.out.items ++ flat_map (below l.indent l.idiom) (map (λ name. name ∷ map (λ a. a.now) l.more) (map (λ n. n.now) (take l.name-index l.names)))
