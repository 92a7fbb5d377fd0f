use Rattle.port_places.specs.Outside.{IsOutside}
use Rattle.port_places.proofs.Reached.{at_start, all_in_none}
use Rattle.port_places.proofs.places.places_of.Goals as goal

pub loop-at-init : goal.loop-at-init
loop-at-init c = (
  at_start c.args.text.now c.args.calls.now c.args.list c.new.result c.new.ensures,
  all_in_none (IsOutside c.args.text.now c.args.calls.now) c.new-3.result.items c.new-3.ensures.items,
)
