use Rattle.std.proofs.Common.{subst, sym}
use Rattle.std.specs.Prelude.{All}
use Rattle.std.proofs.lemmas.List.Elements.{All-push}
use Rattle.port_edits.specs.Edits.{change_of}
use Rattle.port_shell.specs.Formed.{IsEdit}
use Rattle.port_shell.proofs.Steps.{of_some}
use Rattle.port_shell.proofs.passing.push_edit.Goals as goal

pub returns-in_ok-push-in-Some : goal.returns-in_ok-push-in-Some
returns-in_ok-push-in-Some c =
    subst (All (λ e. IsEdit c.args.idioms c.args.text.now (change_of e))) (sym c.in_ok-push-in-Some.ensures.items)
    (All-push (λ e. IsEdit c.args.idioms c.args.text.now (change_of e)) c.args.edits.now.items c.in-Some.edit c.requires.edits
    (of_some (λ e. IsEdit c.args.idioms c.args.text.now (change_of e)) c.args.edit c.in-Some.edit c.in-Some.is c.requires.edit))
