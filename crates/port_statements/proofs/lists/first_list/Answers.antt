use Rattle.port_places.specs.Outside.{IsList}
use Rattle.port_statements.proofs.Listed.{of_none}
use Rattle.port_statements.proofs.lists.first_list.Goals as goal

pub push_one-requires-clause-lists : goal.push_one-requires-clause-lists
push_one-requires-clause-lists c = of_none (IsList c.args.text.now c.args.calls.now) _ c.new-lists.ensures.items
