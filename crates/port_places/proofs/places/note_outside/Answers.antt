use Rattle.std.proofs.Common.{sym, ◌∙◌}
use Rattle.port_places.proofs.Reached.{noted}
use Rattle.port_places.proofs.places.note_outside.Goals as goal

pub returns-in_ok-push : goal.returns-in_ok-push
returns-in_ok-push c =
    noted _ _ c.args.list c.args.at c.args.scan.now _ _ c.requires.list c.requires.within c.requires.read (sym c.is_outside.ensures ∙ c.if-is_outside.true)
    c.requires.outside c.in_ok-push.ensures.items
