use Rattle.std.proofs.Common.{ap, sym, ◌∙◌, false}
use Rattle.meaning.specs.Entries.{sought_test, library_test, search_test}
use Rattle.meaning.specs.Rows.{Formed}
use Rattle.run_step.specs.Openings.{first_test}
use Rattle.run_step.specs.Runs.{asked_run}
use Rattle.run_step.proofs.Steps.{first_leads, form_leads, opened}
use Rattle.run_step.proofs.asking.ask.Goals as goal

pub returns-in_ok-flow-in-Checks-clause-leads : goal.returns-in_ok-flow-in-Checks-clause-leads
returns-in_ok-flow-in-Checks-clause-leads c =
    let about = c.args.about.now in let st = c.args.store.now in let q = c.in-Checks in
    opened c.in_ok-flow-in-Checks.flow (Formed (sought_test q.sought q.entry q.includes false)) c.in_ok-opening-in-Checks.opening about c.start.new.about st c.start.new.store _
    (λ tests next. form_leads (sought_test q.sought q.entry q.includes false) about st tests next ∙ sym (ap (λ x. asked_run x st tests next) q.is))
    c.in_ok-opening-in-Checks.ensures c.in_ok-flow-in-Checks.ensures.leads

pub returns-in_ok-flow-in-ChecksEach-clause-leads : goal.returns-in_ok-flow-in-ChecksEach-clause-leads
returns-in_ok-flow-in-ChecksEach-clause-leads c =
    let about = c.args.about.now in let st = c.args.store.now in let q = c.in-ChecksEach in
    opened c.in_ok-flow-in-ChecksEach.flow (Formed (first_test q.sought q.entries q.includes)) c.in_ok-opening-in-ChecksEach.opening about c.start-in-ChecksEach.new.about st c.start-in-ChecksEach.new.store _
    (λ tests next. first_leads q.sought q.entries q.includes about st tests next c.open_first.ensures.some ∙ sym (ap (λ x. asked_run x st tests next) q.is))
    c.in_ok-opening-in-ChecksEach.ensures.opens c.in_ok-flow-in-ChecksEach.ensures.leads

pub returns-in_ok-flow-in-Library-clause-leads : goal.returns-in_ok-flow-in-Library-clause-leads
returns-in_ok-flow-in-Library-clause-leads c =
    let about = c.args.about.now in let st = c.args.store.now in let q = c.in-Library in
    opened c.in_ok-flow-in-Library.flow (Formed (library_test q.library q.function q.others q.adds)) c.in_ok-opening-in-Library.opening about c.start-in-Library.new.about st c.start-in-Library.new.store _
    (λ tests next. sym (ap (λ x. asked_run x st tests next) q.is)) c.in_ok-opening-in-Library.ensures c.in_ok-flow-in-Library.ensures.leads

pub returns-in_ok-flow-in-Libraries-clause-leads : goal.returns-in_ok-flow-in-Libraries-clause-leads
returns-in_ok-flow-in-Libraries-clause-leads c =
    let about = c.args.about.now in let st = c.args.store.now in let q = c.in-Libraries in
    opened c.in_ok-flow-in-Libraries.flow (Formed (search_test q.function q.libraries q.others)) c.in_ok-opening-in-Libraries.opening about c.start-in-Libraries.new.about st c.start-in-Libraries.new.store _
    (λ tests next. sym (ap (λ x. asked_run x st tests next) q.is)) c.in_ok-opening-in-Libraries.ensures c.in_ok-flow-in-Libraries.ensures.leads
