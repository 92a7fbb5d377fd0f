use Rattle.std.proofs.Common.{◌≡◌, None, map, drop}
use Rattle.std.specs.Prelude.{option_map}
use Rattle.near_names.specs.Near.{nearest_from}
use Rattle.near_names.proofs.near.nearest_of.Given as goal

abbrev pub invariant-loop-other : goal.invariant-loop-other
invariant-loop-other l =
    nearest_from l.name l.room (option_map (λ n. n.now) l.nearest) (map (λ n. n.now) (drop l.other-index l.names))
    ≡ nearest_from l.name l.initial.room None (map (λ n. n.now) l.names)
