use Rattle.std.proofs.Common.{true}
use Rattle.meaning.specs.Entries.{sought_test}
use Rattle.meaning.specs.Rows.{Formed}
use Rattle.run_step.proofs.Steps.{opened, round_leads}
use Rattle.run_step.proofs.asking.begin_round.Goals as goal

pub returns-clause-leads : goal.returns-clause-leads
returns-clause-leads c =
    let a = c.args in
    opened c.in_ok-flow.flow (Formed (sought_test a.sought a.entry.now a.includes.now true)) c.in_ok-opening.opening a.about.now c.start.new.about a.store.now c.start.new.store _
    (λ tests next. round_leads a.sought a.entry.now a.includes.now a.about.now a.store.now tests next) c.in_ok-opening.ensures c.in_ok-flow.ensures.leads
