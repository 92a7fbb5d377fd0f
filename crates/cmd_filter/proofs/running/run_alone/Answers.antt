use Rattle.cmd_filter.proofs.Refusals.{memory_not_run}
use Rattle.cmd_filter.proofs.running.run_alone.Goals as goal

pub returns-in_err-crew-clause-refused : goal.returns-in_err-crew-clause-refused
returns-in_err-crew-clause-refused c = memory_not_run _ c.from_residual.result c.from_residual.ensures.1
