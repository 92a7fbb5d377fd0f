use Rattle.port_places.specs.Outside.{IsList}
use Rattle.port_statements.proofs.Listed.{pushed}
use Rattle.port_statements.proofs.lists.push_one.Goals as goal

pub returns : goal.returns
returns c = pushed (IsList c.args.text.now c.args.calls.now) _ _ c.args.list c.requires.lists c.requires.list c.in_ok-push.ensures.items
