use Rattle.std.proofs.Common.{subst, sym}
use Rattle.run_test.specs.Flows.{Leads}
use Rattle.run_test.specs.declared.wait.Wait.TheVariants as waits
use Rattle.run_step.specs.Replies.{answer_run}
use Rattle.run_step.proofs.replying.continue_with.Goals as goal

pub returns-in-Link-clause-leads : goal.returns-in-Link-clause-leads
returns-in-Link-clause-leads c =
    let about = c.args.about.now in
    let st = c.args.store.now in
    let f = c.in_ok-flow-in-Link.flow in
    subst (λ w. Leads f (answer_run w c.args.succeeded about st) about st) (sym c.in-Link.is)
    (subst (λ b. Leads f (answer_run waits.Link b about st) about st) (sym c.if-not-succeeded.false) (c.in_ok-flow-in-Link.ensures.leads about st))
