use Rattle.run_forms.proofs.Courses.{counts_are, known_are, names_are_left, rows_are}
use Rattle.run_forms.proofs.courses_are_tests.Goals as goal

pub returns-clause-rows : goal.returns-clause-rows
returns-clause-rows c = rows_are

pub returns-clause-counts : goal.returns-clause-counts
returns-clause-counts c = counts_are

pub returns-clause-names : goal.returns-clause-names
returns-clause-names c = names_are_left

pub returns-clause-bare : goal.returns-clause-bare
returns-clause-bare c = known_are
