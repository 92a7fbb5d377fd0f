use Rattle.std.proofs.Common.{◌++◌, ◌∙◌, ap}
use Rattle.port_shell.specs.Formed as specs
use Rattle.port_shell.proofs.Steps.{of_some}
use Rattle.port_shell.proofs.passing.noted_edit.Goals as goal

pub returns : goal.returns
returns c =
    specs.IsEdit.changed c.in-Some.note.items c.args.change.now.put.items c.requires.begins c.requires.put
    (of_some (λ v. specs.IsNote c.args.idioms v.items) c.in_ok-note.field-0 c.in-Some.note c.in-Some.is c.in_ok-note.ensures)
    (c.in_ok-put.ensures ∙ ap (λ p. c.in-Some.note.items ++ p) c.as_slice.ensures.value)
