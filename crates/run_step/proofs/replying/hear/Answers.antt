use Rattle.std.proofs.Common.{sym, subst}
use Rattle.run_test.specs.Flows.{Leads}
use Rattle.run_test.specs.Waits.{all_replies, resumed}
use Rattle.run_test.proofs.Flows.{single_suits}
use Rattle.run_step.proofs.Waiting.{batch_fits, single_leads, single_of, single_step}
use Rattle.run_step.proofs.replying.hear.Goals as goal

pub hear_batch-requires-clause-asked : goal.hear_batch-requires-clause-asked
hear_batch-requires-clause-asked c = batch_fits c.in-Batch.entries c.args.replied.wait c.args.replied.jobs.items c.in-Batch.is c.requires.awaits.fit

pub returns-in-Batch-clause-leads : goal.returns-in-Batch-clause-leads
returns-in-Batch-clause-leads c =
    let r = c.args.replied in let about = c.args.about.now in
    subst (λ w. Leads c.in_ok-flow.flow (λ tests next. resumed tests w r.jobs.items (all_replies r.replies.items) (next 0) about c.args.store.now) about c.hear_batch.new.store)
    (sym c.in-Batch.is) (c.in_ok-flow.ensures.leads about)

pub only_job-job-requires : goal.only_job-job-requires
only_job-job-requires c = (single_suits c.args.replied.wait c.args.replied.jobs.items (single_of c.args.replied.wait c.in_default.not-Batch)).0 c.requires.awaits.fit

pub returns : goal.returns
returns c =
    let r = c.args.replied in
    record {
      step = single_step c.in_ok-flow-2.flow r c.only_reply-reply.result c.args.before c.only_reply-reply.ensures c.in_ok-flow-2.ensures.step;
      leads = single_leads c.in_ok-flow-2.flow r c.only_job-job.result c.only_reply-reply.result c.args.about.now c.hear_one.new.about c.args.store.now c.hear_one.new.store
          (single_of r.wait c.in_default.not-Batch) c.only_job-job.ensures c.only_reply-reply.ensures c.in_ok-flow-2.ensures.leads;
    }
