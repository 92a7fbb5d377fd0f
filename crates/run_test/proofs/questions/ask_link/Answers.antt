use Rattle.std.proofs.Common.{refl, arith}
use Rattle.run_test.proofs.Flows.{asks_one}
use Rattle.run_test.proofs.questions.ask_link.Goals as goal

pub returns-clause-step : goal.returns-clause-step
returns-clause-step c = asks_one _ _ _ _ refl c.in_ok-jobs.ensures (omega arith)
