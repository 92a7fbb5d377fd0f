use Rattle.std.proofs.Common.{rules}
use Rattle.std.proofs.lemmas.Result.{err_from_is_err_and}
use Rattle.options.proofs.Restorings.{restored_more, restored_fails, restored_end}
use Rattle.options.proofs.precious.restored_variables.Goals as goal

pub returns-in_err-change : goal.returns-in_err-change
returns-in_err-change c =
    let p = err_from_is_err_and c.from_residual.result c.from_residual.ensures.1 in
    rw (p.1, p.2) (restored_fails _ _ _ _ _ c.names.changes.items c.names.i c.in_err-change.field-0.0 _ c.names-test.true c.index-precious-i.is c.in_err-change.ensures c.names.invariant)

pub names-preserved : goal.names-preserved
names-preserved c = restored_more _ _ _ _ _ c.names.changes.items c.names.i _ c.in_ok-change.change _ c.names-test.true c.index-precious-i.is c.in_ok-change.ensures c.in_ok-push_change.ensures.ok c.names.invariant

pub returns : goal.returns
returns c = restored_end _ _ _ c.args.precious.now _ c.names.changes.items c.names.i (search rules) c.names.invariant
