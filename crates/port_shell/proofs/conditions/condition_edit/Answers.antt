use Rattle.port_edits.specs.Edits.{change_of}
use Rattle.port_shell.specs.Formed as specs
use Rattle.port_shell.proofs.Steps.{of_some}
use Rattle.port_shell.proofs.conditions.condition_edit.Goals as goal

pub returns-in-Some-2 : goal.returns-in-Some-2
returns-in-Some-2 c =
    specs.IsEdit.idiom c.in-All.is
    (of_some (λ e. specs.IsIdiom c.args.text.now (change_of e)) c.in_ok-edit-in-All.field-0 c.in-Some-2.edit c.in-Some-2.is c.in_ok-edit-in-All.ensures)
