use Rattle.std.proofs.Common.{rules, ◌+◌, ℕ, length, sym, ap, arith}
use Rattle.std.proofs.lemmas.List.{length-drop, take_rest}
use Rattle.std.proofs.lemmas.Result.{err_from_is_err_and}
use Rattle.shellword.proofs.Outcome.{fails_along}
use Rattle.shellword.proofs.Runs.{loop_failed, loop_front, loop_stopped, loop_ended, unclosed, closed}
use Rattle.shellword.proofs.run.read_run.Goals as goal
use Rattle.shellword.proofs.run.read_run.Goals.{else-loop-at-test, then-loop-at-test+then-ends_before}

pub returns-in_err-front-clause-value : goal.returns-in_err-front-clause-value
returns-in_err-front-clause-value c =
    let p = err_from_is_err_and c.from_residual.result c.from_residual.ensures.1 in
    rw (p.1, p.2) (fails_along _ _ _ (loop_failed c.loop-at.parts.items c.loop-at.context c.loop-at.at c.args.text.now _ c.loop-at.invariant.goes_on c.loop-at-test.true _ (sym (c.if-ends_before.ensures _))) c.in_err-front.ensures.value)

pub loop-at-preserved : goal.loop-at-preserved
loop-at-preserved c = record {
  begun = search rules;
  within = omega (arith, c.in_ok-front.ensures.within.1, length-drop (c.loop-at.at + 1) c.args.text.now, ap (length {A = ℕ}) (take_rest c.args.text.now (c.loop-at.at + 1)));
  goes_on = loop_front c.loop-at.parts.items c.loop-at.context c.loop-at.at c.args.text.now _ c.loop-at.invariant.goes_on c.loop-at-test.true c.in_ok-front.front c.push_part.new.parts.items
      (sym (c.if-ends_before.ensures _)) c.in_ok-front.ensures.value c.in_ok-front.ensures.within.0 c.in_ok-front.ensures.within.1 (c.in_ok-push_part.ensures.ok);
}

pub returns-then-is_quoted-clause-value : goal.returns-then-is_quoted-clause-value
returns-then-is_quoted-clause-value c =
    let h = sym (c.if-is_quoted.ensures) in
    elim c.loop-at-test.branch [
      | else-loop-at-test w ↦ unclosed _ _ _ c.args.text.now _ c.loop-at.invariant.goes_on (loop_ended _ _ _ c.args.text.now _ c.loop-at.invariant.goes_on w.loop-at-test.false) h
      | then-loop-at-test+then-ends_before w ↦ unclosed _ _ _ c.args.text.now _ c.loop-at.invariant.goes_on (loop_stopped _ _ _ c.args.text.now _ c.loop-at.invariant.goes_on w.loop-at-test.true (sym (w.if-ends_before.ensures _))) h
    ]

pub returns-clause-value : goal.returns-clause-value
returns-clause-value c =
    let h = sym (c.if-is_quoted.ensures) in
    elim c.loop-at-test.branch [
      | else-loop-at-test w ↦ closed _ _ _ c.args.text.now _ c.loop-at.invariant.goes_on (loop_ended _ _ _ c.args.text.now _ c.loop-at.invariant.goes_on w.loop-at-test.false) h
      | then-loop-at-test+then-ends_before w ↦ closed _ _ _ c.args.text.now _ c.loop-at.invariant.goes_on (loop_stopped _ _ _ c.args.text.now _ c.loop-at.invariant.goes_on w.loop-at-test.true (sym (w.if-ends_before.ensures _))) h
    ]
