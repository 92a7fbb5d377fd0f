use Rattle.port_edits.specs.Edits.{change_of}
use Rattle.port_shell.specs.Formed as specs
use Rattle.port_shell.proofs.Steps.{of_some}
use Rattle.port_shell.proofs.conditions.idiom_edit.Goals as goal

pub returns-in-Some : goal.returns-in-Some
returns-in-Some c = of_some (λ e. specs.IsIdiom c.args.text.now (change_of e)) c.in_ok-edit.field-0 c.in-Some.edit c.in-Some.is c.in_ok-edit.ensures
