use Rattle.std.proofs.Common.{refl, ap, ◌∙◌, length, arith}
use Rattle.run_test.proofs.Flows.{led}
use Rattle.run_step.proofs.Beginnings.{batch_awaits, begins_asking, begins_now, few_asked, made}
use Rattle.run_step.proofs.Committing.{few_waiting}
use Rattle.run_step.proofs.Turns.{is_nothing, is_something}
use Rattle.run_step.proofs.batch_start.begin_batch.Goals as goal

pub jobs_of-requires : goal.jobs_of-requires
jobs_of-requires c =
    omega (arith, ap length (c.as_slice-2.ensures.value ∙ c.in_ok-waiting.ensures), few_waiting c.args.listed c.as_slice.result.now c.args.store.now, ap length c.as_slice.ensures.value, c.as_slice.ensures.bounded)

pub returns-then-is_empty-clause-leads : goal.returns-then-is_empty-clause-leads
returns-then-is_empty-clause-leads c = λ about.
    let what = c.args.listed in
    let list = c.args.entries.now in
    let given = c.args.includes.now in
    let st = c.args.store.now in
    let m = made what list c.as_slice.result.now given c.in_ok-waiting.waiting.items c.as_slice-2.result.now c.in_ok-jobs.jobs.items st c.as_slice.ensures.value c.in_ok-waiting.ensures c.as_slice-2.ensures.value c.in_ok-jobs.ensures in
    led c.in_ok-flow.flow about c.end_now.new.store _ _
    (λ tests next. begins_now what list given c.in_ok-waiting.waiting.items c.as_slice-then-is_empty.result.now c.in_ok-jobs.jobs.items st tests (next 0 about) m c.as_slice-then-is_empty.ensures.value
    (is_nothing c.in_ok-jobs.jobs.items _ c.in_ok-jobs.jobs.ok.0 c.if-is_empty.ensures))
    (c.in_ok-flow.ensures.leads about)

pub returns-clause-step : goal.returns-clause-step
returns-clause-step c =
    let what = c.args.listed in
    let list = c.args.entries.now in
    let given = c.args.includes.now in
    let st = c.args.store.now in
    let m = made what list c.as_slice.result.now given c.in_ok-waiting.waiting.items c.as_slice-2.result.now c.in_ok-jobs.jobs.items st c.as_slice.ensures.value c.in_ok-waiting.ensures c.as_slice-2.ensures.value c.in_ok-jobs.ensures in
    let some = is_something c.in_ok-jobs.jobs.items _ c.in_ok-jobs.jobs.ok.0 c.if-is_empty.ensures in
    record {
      within = omega arith;
      asks = omega (arith, few_asked what list given c.in_ok-waiting.waiting.items c.in_ok-jobs.jobs.items st m some);
      group = batch_awaits what list given c.in_ok-waiting.waiting c.in_ok-jobs.jobs.items st m some c.as_slice.ensures.bounded;
      heeds = refl;
    }

pub returns-clause-leads : goal.returns-clause-leads
returns-clause-leads c = λ about tests next.
    let what = c.args.listed in
    let list = c.args.entries.now in
    let given = c.args.includes.now in
    let st = c.args.store.now in
    let m = made what list c.as_slice.result.now given c.in_ok-waiting.waiting.items c.as_slice-2.result.now c.in_ok-jobs.jobs.items st c.as_slice.ensures.value c.in_ok-waiting.ensures c.as_slice-2.ensures.value c.in_ok-jobs.ensures in
    begins_asking what list given c.in_ok-waiting.waiting.items c.in_ok-jobs.jobs.items st tests (next 0 about) m (is_something c.in_ok-jobs.jobs.items _ c.in_ok-jobs.jobs.ok.0 c.if-is_empty.ensures)
