use Rattle.run_test.proofs.Flows.{asks_moved, led_moved}
use Rattle.run_test.proofs.trying.ask.Goals as goal

pub returns-clause-step : goal.returns-clause-step
returns-clause-step c = asks_moved c.args.trial c.moved-trial.result c.args.ends_on c.args.value c.in_ok-jobs.jobs c.args.job c.moved-trial.ensures c.in_ok-jobs.ensures c.requires.place

pub returns-clause-leads : goal.returns-clause-leads
returns-clause-leads c = λ about st tests next. led_moved c.args.trial c.moved-trial.result c.args.ends_on c.args.value c.in_ok-jobs.jobs c.args.job about st tests next c.moved-trial.ensures c.in_ok-jobs.ensures
