use Rattle.std.proofs.lemmas.Result.{err_from_is_err_and}
use Rattle.ac_args.proofs.OutputLemmas.{check_fails, check_passes}
use Rattle.ac_args.proofs.outputs.add_output.Goals as goal

pub returns-in_err-check_output : goal.returns-in_err-check_output
returns-in_err-check_output c =
    let p = err_from_is_err_and c.from_residual-in_err-check_output.result c.from_residual-in_err-check_output.ensures.1 in
    rw (p.1, p.2) (check_fails c.in_err-check_output.field-0.0 _ _ _ _ _ _ c.in_ok-output.ensures c.in_err-check_output.ensures)

pub returns : goal.returns
returns c = check_passes _ _ _ _ _ _ _ tt c.in_ok-output.ensures c.in_ok-check_output.ensures c.in_ok-push.ensures.ok
