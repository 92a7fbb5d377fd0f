use Rattle.run_test.proofs.Rows.{row_is}
use Rattle.run_test.proofs.rows_are_of_courses.Goals as goal

pub returns : goal.returns
returns c = record { rows = row_is }
