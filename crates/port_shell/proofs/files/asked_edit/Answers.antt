use Rattle.std.proofs.Common.{◌++◌, ◌∙◌, ap, refl, slice_range}
use Rattle.port_shell.specs.Formed as specs
use Rattle.port_shell.proofs.Steps.{of_some}
use Rattle.port_shell.proofs.files.asked_edit.Goals as goal

pub returns : goal.returns
returns c =
    let text = c.args.text.now in
    let place = c.args.place in
    let indent = c.in-Some.indent.now in
    let answer = c.in-Some-2.answer in
    let front = slice_range text place.start place.from in
    specs.IsIdiom.asked place.from answer.put.items answer.call.items indent c.requires.place (c.if-not-may_ask_at.ensures refl)
    (of_some (λ a. specs.IsAsked (slice_range text place.from place.to) a.put.items a.call.items) c.in_ok-answer.field-0 answer c.in-Some-2.is c.in_ok-answer.ensures)
    c.in-Some.ensures
    (c.in_ok-put.ensures ∙ ap (λ k. specs.asked_so indent k ++ (front ++ c.as_slice-2.result.now)) c.as_slice.ensures.value
    ∙ ap (λ p. specs.asked_so indent answer.call.items ++ (front ++ p)) c.as_slice-2.ensures.value)
