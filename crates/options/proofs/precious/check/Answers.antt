use Rattle.std.proofs.Common.{Ok, sym, ap, ◌∙◌}
use Rattle.std.proofs.lemmas.Result.{err_from_is_err_and}
use Rattle.options.proofs.Restorings.{checked_is, check_fails}
use Rattle.options.proofs.precious.check.Goals as goal

pub returns-in_err-changes-clause-exact : goal.returns-in_err-changes-clause-exact
returns-in_err-changes-clause-exact c =
    let p = err_from_is_err_and c.from_residual.result c.from_residual.ensures.1 in
    rw (p.1, p.2) (check_fails c.in_err-changes.field-0.0 _ _ _ (rw c.names.ensures.names at c.in_err-changes.ensures))

pub returns-clause-exact : goal.returns-clause-exact
returns-clause-exact c =
    let found = rw c.names.ensures.names at c.in_ok-changes.ensures in
    checked_is _ _ _ c.deref.result.now _ _ (found ∙ ap (λ changes. Ok changes) (sym c.deref.ensures.value)) c.in_ok-change_all.ensures.vars c.in_ok-change_all.ensures.notes
