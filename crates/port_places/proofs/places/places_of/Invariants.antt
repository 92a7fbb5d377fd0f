use Rattle.std.specs.Prelude.{All}
use Rattle.port_places.specs.Outside.{IsRead, IsOutside}
use Rattle.port_places.proofs.places.places_of.Given as goal

abbrev pub invariant-loop-at : goal.invariant-loop-at
invariant-loop-at l = IsRead l.text l.calls l.list l.walk.at l.walk.scan × All (IsOutside l.text l.calls) l.walk.outside.items
