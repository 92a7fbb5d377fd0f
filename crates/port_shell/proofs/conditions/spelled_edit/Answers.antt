use Rattle.std.proofs.Common.{◌++◌, ◌∙◌, ap, slice_range}
use Rattle.port_joints.specs.Spelled.{IsRespelled}
use Rattle.port_shell.specs.Formed as specs
use Rattle.port_shell.proofs.Steps.{of_some}
use Rattle.port_shell.proofs.conditions.spelled_edit.Goals as goal

pub returns : goal.returns
returns c =
    let text = c.args.text.now in
    let place = c.args.place in
    let indent = c.in-Some-indent_at.indent.now in
    specs.IsIdiom.respelled place.from c.in-Some.condition.items indent c.requires
    (of_some (λ v. IsRespelled (slice_range text place.from place.to) v.items) c.in_ok-condition.field-0 c.in-Some.condition c.in-Some.is c.in_ok-condition.ensures)
    c.in-Some-indent_at.ensures (c.in_ok-put.ensures ∙ ap (λ p. specs.spelled_so indent ++ (slice_range text place.start place.from ++ p)) c.as_slice.ensures.value)
