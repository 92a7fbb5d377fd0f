use Rattle.run_test.proofs.Rows.{count_is}
use Rattle.run_test.proofs.counts_are_of_attempts.Goals as goal

pub returns : goal.returns
returns c = record { counts = count_is }
