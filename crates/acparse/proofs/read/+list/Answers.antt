use Rattle.std.proofs.Common.{[], ◌∷◌, map, subst, ◌+◌, arith, ap, sym, ◌∙◌, Ok}
use Rattle.ac_tree.specs.Lists.{after_cases}
use Rattle.ac_tree.specs.Script.{Cases, script_of}
use Rattle.ac_statement.specs.Reading.{Gives}
use Rattle.ac_macros.specs.ListKind.{list_kind_of}
use Rattle.std.proofs.lemmas.Result.{err_from_is_err_and}
use Rattle.std.proofs.Math.ListN.{drop_of_length-le}
use Rattle.m4quote.specs.ItemValue.{span, view, views}
use Rattle.acparse.specs.Profile.{body_of}
use Rattle.acparse.proofs.Steps.{views_drop, slice_from, call_adds, bare_adds, spans_drop, items_step, items_stop, items_done, cases_step, cases_fail, case_is, case_fails, cases_done, default_known, asked_rest, asked_fails, asked_with_known}
use Rattle.acparse.proofs.read.+list.Goals as goal

-- ---- items

pub read_statements-loop-i-preserved : goal.read_statements-loop-i-preserved
read_statements-loop-i-preserved t c =
    let item = c.index-items-i.result in
    items_step _ _ _ _ _ _ _ _ _ _ (view item) _ _ _ (views_drop c.args.items.now c.loop-i.i item c.loop-i-test.true c.index-items-i.is) (ap views (slice_from c.args.items.now (c.loop-i.i + 1))) c.line_start_of-line_start.ensures c.loop-i.invariant c.in_ok-read_item.ensures

pub read_statements-returns-in_err-read_item-clause-value : goal.read_statements-returns-in_err-read_item-clause-value
read_statements-returns-in_err-read_item-clause-value t c =
    let p = err_from_is_err_and c.from_residual.result c.from_residual.ensures.1 in
    let item = c.index-items-i.result in
    rw (p.1, p.2) (items_stop c.in_err-read_item.field-0.0 _ _ _ _ _ _ _ (view item) _ _ _ (views_drop c.args.items.now c.loop-i.i item c.loop-i-test.true c.index-items-i.is) (ap views (slice_from c.args.items.now (c.loop-i.i + 1))) c.loop-i.invariant c.in_err-read_item.ensures)

pub read_statements-returns-clause-value : goal.read_statements-returns-clause-value
read_statements-returns-clause-value t c = items_done _ _ _ _ _ _ _ _ (ap views (drop_of_length-le c.args.items.now c.loop-i-test.false)) c.loop-i.invariant

pub read_item-returns-in-Bare : goal.read_item-returns-in-Bare
read_item-returns-in-Bare t c = bare_adds c.read_bare.result _ (body_of c.args.room) _ _ _ _ _ (views c.args.following.now) _ _ (ap view c.in-Bare.is) c.read_bare.ensures

pub read_item-returns-in_ok-push-in-Call : goal.read_item-returns-in_ok-push-in-Call
read_item-returns-in_ok-push-in-Call t c =
    call_adds _ (body_of c.args.room) _ _ _ _ _ (map span c.in-Call.args.items) _ _ _ _ _ _ (ap view c.in-Call.is)
    (rw c.deref.ensures.value at c.in_ok-m-in-Call.ensures) (rw c.deref-in-Call.ensures.value at c.in_ok-s-in-Call.ensures.value) c.in_ok-s-in-Call.ensures.after c.in_ok-push-in-Call.ensures.items

-- ---- cases

pub read_cases-loop-i-preserved : goal.read_cases-loop-i-preserved
read_cases-loop-i-preserved t c =
    let args = c.args.args.now in
    let read = case_is _ _ _ _ _ c.in_ok-case.case c.in_ok-case.ensures.value in (
      omega arith,
      cases_step _ _ _ _ _ _ _ _ _ _ _ _ _ (spans_drop args c.loop-i.i _ _ c.loop-i-test.true c.index-args-i.is c.index-args-i-in-loop-i.is)
          c.loop-i.invariant.1 read.0 read.1 c.in_ok-case.ensures.after c.in_ok-push.ensures.items,
    )

pub read_cases-returns-in_err-case-clause-value : goal.read_cases-returns-in_err-case-clause-value
read_cases-returns-in_err-case-clause-value t c =
    let p = err_from_is_err_and c.from_residual.result c.from_residual.ensures.1 in
    rw (p.1, p.2) (cases_fail c.in_err-case.field-0.0 _ _ _ _ _ _ _ c.loop-i.invariant.1
    (case_fails _ _ _ _ _ _ _ _ (spans_drop c.args.args.now c.loop-i.i _ _ c.loop-i-test.true c.index-args-i.is c.index-args-i-in-loop-i.is) c.in_err-case.ensures.value))

pub read_cases-returns-clause-value : goal.read_cases-returns-clause-value
read_cases-returns-clause-value t c =
    cases_done _ _ _ _ c.loop-i.cases.items c.in_ok-last.last _ _ _ c.loop-i.invariant.1 (ap (map span) (slice_from c.args.args.now c.loop-i.i)) c.in_ok-last.ensures.value
    ∙ ap (λ (s : Cases). Ok s) (sym c.in_ok-with_last.ensures)

pub read_cases-returns-clause-after : goal.read_cases-returns-clause-after
read_cases-returns-clause-after t c =
    default_known _ _ _ c.loop-i.cases.items c.in_ok-last.last c.loop-i.invariant.1.known c.in_ok-last.ensures.after
    ∙ ap (after_cases c.args.known.now) (sym c.in_ok-with_last.ensures)

-- ---- questions

pub read_question-returns-in_err-cases : goal.read_question-returns-in_err-cases
read_question-returns-in_err-cases t c =
    let p = err_from_is_err_and c.from_residual-in_err-cases.result c.from_residual-in_err-cases.ensures.1 in
    record {
      value = rw (p.1, p.2) (asked_fails c.in_err-cases.field-0.0 (body_of c.args.room (list_kind_of c.args.list_kind)) c.args.m _ _ _ _ _ c.in_ok-declares.ensures.value c.in_ok-declares.ensures.after c.action_args.ensures c.in_err-cases.ensures.value);
      after = rw p.1 tt;
    }

pub read_question-returns-clause-value : goal.read_question-returns-clause-value
read_question-returns-clause-value t c =
    subst (Gives (λ s. script_of (s ∷ [])) c.asked_with.result)
    (sym (asked_rest (body_of c.args.room (list_kind_of c.args.list_kind)) c.args.m _ _ _ _ _ _ c.in_ok-declares.ensures.value c.in_ok-declares.ensures.after c.action_args.ensures c.in_ok-cases.ensures.value))
    c.asked_with.ensures

pub read_question-returns-clause-after : goal.read_question-returns-clause-after
read_question-returns-clause-after t c = asked_with_known _ _ _ _ _ _ _ c.asked_with.result c.in_ok-declares.ensures.after c.in_ok-cases.ensures.after c.asked_with.ensures
