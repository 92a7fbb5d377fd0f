use Rattle.std.proofs.Common.{subst, sym}
use Rattle.std.specs.Prelude.{All}
use Rattle.std.proofs.lemmas.List.Elements.{All-push}
use Rattle.port_edits.specs.Edits.{change_of}
use Rattle.port_messages.specs.Told.{IsNoted}
use Rattle.port_messages.proofs.Telling.{of_some}
use Rattle.port_messages.proofs.passing.push_edit.Goals as goal

pub returns-in_ok-push : goal.returns-in_ok-push
returns-in_ok-push c =
    subst (All (λ e. IsNoted c.args.text.now (change_of e))) (sym c.in_ok-push.ensures.items)
    (All-push (λ e. IsNoted c.args.text.now (change_of e)) c.args.edits.now.items c.in-Some.edit c.requires.edits
    (of_some (λ e. IsNoted c.args.text.now (change_of e)) c.args.edit c.in-Some.edit c.in-Some.is c.requires.edit))
