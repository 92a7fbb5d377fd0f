use Rattle.std.proofs.Common.{ℕ, length, List, sym, ap, ◌∙◌, arith}
use Rattle.std.proofs.lemmas.List.{length-drop, take_rest}
use Rattle.std.proofs.lemmas.Result.{err_from_is_err_and}
use Rattle.shell_bare.specs.declared.assignments.Assignment.{Assignment}
use Rattle.shell_bare.proofs.Outcome.{fails_along}
use Rattle.fallible.proofs.Binds.{done}
use Rattle.shell_bare.proofs.Scans.{loop_failed, loop_item, loop_ended}
use Rattle.shell_bare.proofs.statements.read_joined.Goals as goal

pub returns-in_err-item-clause-value : goal.returns-in_err-item-clause-value
returns-in_err-item-clause-value c =
    let p = err_from_is_err_and c.from_residual.result c.from_residual.ensures.1 in
    rw (p.1, p.2) (fails_along _ _ _ (loop_failed c.loop-at.list.items c.loop-at.stage c.loop-at.at c.args.text.now _ c.loop-at.invariant.goes_on c.loop-at-test.true _) c.in_err-item.ensures.value)

pub loop-at-preserved : goal.loop-at-preserved
loop-at-preserved c = record {
  within = omega (arith, c.in_ok-item.ensures.within.1, length-drop c.loop-at.at c.args.text.now, ap (length {A = ℕ}) (take_rest c.args.text.now c.loop-at.at), c.loop-at-test.true);
  goes_on = loop_item c.loop-at.list.items c.loop-at.stage c.loop-at.at c.args.text.now _ c.loop-at.invariant.goes_on c.loop-at-test.true c.in_ok-item.item c.push_assignment.new.list.items
      c.in_ok-item.ensures.value c.in_ok-item.ensures.within.0 c.in_ok-item.ensures.within.1 c.in_ok-push_assignment.ensures.ok;
}

pub returns-clause-value : goal.returns-clause-value
returns-clause-value c = loop_ended c.loop-at.list.items c.loop-at.stage c.loop-at.at c.args.text.now _ c.loop-at.invariant.goes_on c.loop-at-test.false ∙ ap (λ (l : List Assignment). done l) (sym c.from_vec.ensures)
