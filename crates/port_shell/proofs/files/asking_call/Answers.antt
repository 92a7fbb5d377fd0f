use Rattle.std.proofs.Common.{◌∙◌}
use Rattle.port_shell.proofs.Testing.{asks_for}
use Rattle.port_shell.proofs.files.asking_call.Goals as goal

pub returns : goal.returns
returns c =
    asks_for (λ v. v.items) c.accepted_call.result c.args.letter c.args.path.now c.args.name.now _ _ _ _ (c.as_slice.ensures.value ∙ c.in_ok-program.ensures)
    (c.as_slice-2.ensures.value ∙ c.in_ok-found.ensures) (c.as_slice-3.ensures.value ∙ c.in_ok-lacks.ensures) (c.as_slice-4.ensures.value ∙ c.in_ok-none.ensures) c.accepted_call.ensures
