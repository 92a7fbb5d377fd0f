use Rattle.std.proofs.Common.{◌≡◌, List, Bool, IfOk, ◌∙◌, subst}
use Rattle.shell_case.proofs.Flags.{kept_part}
use Rattle.shell_case.proofs.places.keep_part.Goals as goal

pub returns : goal.returns
returns c =
    let lens = c.deref.ensures.value ∙ c.in_ok-lens.ensures.value in
    subst (λ (l : List Bool). IfOk c.keep_long.result (λ v. v.items ≡ l)) (kept_part c.args.part.now c.args.text.now c.deref.result.now c.args.flags.now c.requires lens) c.keep_long.ensures
