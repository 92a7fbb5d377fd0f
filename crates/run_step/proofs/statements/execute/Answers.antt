use Rattle.run_test.proofs.Flows.{led}
use Rattle.run_step.specs.Openings.{search_kind}
use Rattle.run_step.proofs.Steps.{batch_leads, opened, search_leads}
use Rattle.run_step.proofs.statements.execute.Goals as goal

pub returns-in_ok-flow-in-Search-clause-leads : goal.returns-in_ok-flow-in-Search-clause-leads
returns-in_ok-flow-in-Search-clause-leads c =
    let about = c.args.about.now in let st = c.args.store.now in let p = c.in-Search in
    opened c.in_ok-flow-in-Search.flow (search_kind p.variable p.program p.value p.otherwise st) c.in_ok-opening-in-Search.opening about c.start.new.about st c.start.new.store _
    (λ tests next. search_leads c.args.effect.now p.variable p.program p.value p.otherwise about st tests next p.is)
    c.in_ok-opening-in-Search.ensures c.in_ok-flow-in-Search.ensures.leads

pub returns-in_ok-flow-in-Batch-clause-leads : goal.returns-in_ok-flow-in-Batch-clause-leads
returns-in_ok-flow-in-Batch-clause-leads c =
    let about = c.args.about.now in let st = c.args.store.now in let p = c.in-Batch in
    led c.in_ok-flow-in-Batch.flow about c.begin_batch.new.store _ _
    (λ tests next. batch_leads c.args.effect.now p.listed p.entries p.includes about st tests next p.is) (c.in_ok-flow-in-Batch.ensures.leads about)
