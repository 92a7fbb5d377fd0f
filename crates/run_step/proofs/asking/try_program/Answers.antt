use Rattle.std.proofs.Common.{◌∙◌, arith, sym}
use Rattle.run_test.proofs.Flows.{fewer, led}
use Rattle.run_step.proofs.Steps.{one_asks, tried_answers, tried_links}
use Rattle.run_step.proofs.asking.try_program.Goals as goal

pub returns-in-Run-clause-leads : goal.returns-in-Run-clause-leads
returns-in-Run-clause-leads c = λ scope.
    let a = c.args in
    led c.in_ok-flow.flow scope a.store.now _ _
    (λ tests next. tried_links a.kind a.program.now scope a.store.now tests next c.in-Some.job c.in-Run.is (sym c.in_ok-job.ensures ∙ c.in-Some.is))
    (c.in_ok-flow.ensures.leads scope a.store.now)

pub returns : goal.returns
returns c =
    let a = c.args in
    record {
      step = fewer c.in_ok-flow-2.flow _ _ _ (omega (arith, one_asks a.kind)) c.in_ok-flow-2.ensures.step;
      leads = λ scope.
          led c.in_ok-flow-2.flow scope a.store.now _ _
          (λ tests next. tried_answers a.kind a.program.now scope a.store.now tests next c.in-Some.job c.in_default-kind.not-Run (sym c.in_ok-job.ensures ∙ c.in-Some.is))
          (c.in_ok-flow-2.ensures.leads scope a.store.now);
    }
