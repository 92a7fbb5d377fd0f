use Rattle.run_test.proofs.Flows.{fewer_ok, led_as}
use Rattle.run_test.proofs.Starts.{opening_starts, opening_asks}
use Rattle.run_test.proofs.trying.start.Goals as goal

pub returns-clause-step : goal.returns-clause-step
returns-clause-step c = λ kind o. fewer_ok c.start_by.result _ _ _ (opening_asks kind c.args.store.now c.args.opening o) c.start_by.ensures.step

pub returns-clause-leads : goal.returns-clause-leads
returns-clause-leads c = λ kind o.
    led_as c.start_by.result c.start_by.new.about c.start_by.new.store _ _
    (λ tests next. opening_starts kind c.args.opening c.args.about.now c.args.store.now tests next o) c.start_by.ensures.leads
