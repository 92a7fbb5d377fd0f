use Rattle.std.proofs.lemmas.List.Elements.{All-get_or}
use Rattle.port_places.specs.Outside.{IsList}
use Rattle.port_statements.proofs.lists.list_at.Goals as goal

pub returns : goal.returns
returns c = All-get_or (IsList c.args.text.now c.args.calls.now) c.args.lists.now c.args.index _ c.requires.within c.requires.lists
