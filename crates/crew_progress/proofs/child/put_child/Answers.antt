use Rattle.std.proofs.Common.{refl, ap, ◌∙◌}
use Rattle.crew_progress.specs.Child.{purpose}
use Rattle.crew_progress.specs.Subject.{command_text}
use Rattle.crew_progress.proofs.Children.{child_is}
use Rattle.crew_progress.proofs.child.put_child.Goals as goal

pub returns : goal.returns
returns c = λ text h.
    let first = c.put.ensures text h in
    let second = c.put-2.ensures _ first in
    let third = c.put_purpose.ensures _ second in
    let fourth = c.put-3.ensures _ third in
    let fifth = c.put_command.ensures _ fourth in
    child_is _ _ text _ _ _ _ _ c.args.number c.args.job.now refl (c.as_bytes.ensures.value ∙ c.format.ensures.text) (ap purpose c.subject_of_file.ensures) refl (ap command_text c.as_slice.ensures) fifth
