use Rattle.std.proofs.Common.{IfOk, subst}
use Rattle.run_test.specs.Flows.{Leads}
use Rattle.run_test.specs.Waits.{all_replies, resumed}
use Rattle.run_machine.proofs.machine.Machine.hear.Goals as goal

pub returns-clause-leads : goal.returns-clause-leads
returns-clause-leads c =
    let i = c.self.inside in
    subst (λ m. IfOk c.hear.result (λ flow. Leads flow (λ tests next. resumed tests m.wait m.jobs (all_replies m.replies) (next 0) m.mind.scope m.state) c.hear.new.about c.hear.new.store)) c.self.view_is
    (subst (λ w. IfOk c.hear.result (λ flow. Leads flow (λ tests next. resumed tests w i.jobs.items (all_replies i.replies.items) (next 0) i.about i.store) c.hear.new.about c.hear.new.store)) c.replace-wait.ensures.value
    (subst (λ v. IfOk c.hear.result (λ flow. Leads flow (λ tests next. resumed tests c.replace-wait.result v.items (all_replies i.replies.items) (next 0) i.about i.store) c.hear.new.about c.hear.new.store)) c.replace-jobs.ensures.value
    (subst (λ v. IfOk c.hear.result (λ flow. Leads flow (λ tests next. resumed tests c.replace-wait.result c.replace-jobs.result.items (all_replies v.items) (next 0) i.about i.store) c.hear.new.about c.hear.new.store)) c.replace-replies.ensures.value
    c.hear.ensures.leads)))
