-- Tests that have begun: a column of the courses for each question.
use Rattle.std.specs.Prelude.{ℕ, List, [], ◌++◌, Option, Some, None, codes, map, unwrap_or, length}
use Rattle.meaning.specs.State.{State, Scope, answered, with_variable, value_or_empty}
use Rattle.meaning.specs.Asking.{Attempt}
use Rattle.meaning.specs.Directories.{directories_of}
use Rattle.meaning.specs.Rows as rows
use Rattle.meaning.specs.Rows.{TestKind, attempt_in, first_of, text_or_no}
use Rattle.meaning.specs.Forms.{Table, form_used, may_start, says_found}
use Rattle.meaning.specs.Tests.{Row, by_attempts}
use Rattle.run_forms.specs.Courses as forms
use Rattle.run_test.specs.declared.course.Course.{Course}
use Rattle.run_test.specs.declared.course.Course.TheVariants.{Program, Formed}

-- The name of the test. (Autoconf's manual, "Cache Variable Names")
abbrev pub name_in : Course → List ℕ
name_in (Program search directories) = search.name
name_in (Formed c) = c.name

-- What is checked. (Autoconf's manual, "Printing Messages")
abbrev pub message_in : Course → List ℕ
message_in (Program search directories) = codes "for " ++ search.program
message_in (Formed c) = c.form.message

-- The attempts. (Autoconf's manual, "Generic Programs", "Generic Types" and "Library Files")
abbrev pub attempts_in : Course → Table → Table → List Attempt
attempts_in (Program search directories) vars defs = map (attempt_in search) directories
attempts_in (Formed c) vars defs = forms.attempts_in c vars defs

-- How many attempts there are. (own)
abbrev pub count_in : Course → ℕ
count_in (Program search directories) = length directories
count_in (Formed c) = length c.form.tries

-- The value if no attempt ends the test. (Autoconf's manual, "Generic Programs")
abbrev pub otherwise_in : Course → Option (List ℕ)
otherwise_in (Program search directories) = search.otherwise
otherwise_in (Formed c) = Some c.form.otherwise

-- What is printed of the value. (Autoconf's manual, "Printing Messages")
abbrev pub shown_in : Course → Option (List ℕ) → List ℕ
shown_in (Program search directories) value = text_or_no (unwrap_or value [])
shown_in (Formed c) value = unwrap_or value []

-- What is done with the value. (Autoconf's manual, "Generic Programs" to "Library Files")
abbrev pub used_in : Course → Option (List ℕ) → State → State
used_in (Program search directories) value st = with_variable search.variable (unwrap_or value []) st
used_in (Formed c) value st = form_used c.form value st

-- The subject of the choice after the test: that of a program leaves it, any other is the question of the choice. (own)
abbrev pub scope_in : Course → Option (List ℕ) → Scope → Scope
scope_in (Program search directories) value scope = scope
scope_in (Formed c) value scope = answered (says_found c.form.says value)

-- The directories of PATH, or none if the variable's own value counts. (Autoconf's manual, "Generic Programs")
abbrev pub directories_for : Option (List ℕ) → State → List (List ℕ)
directories_for None st = directories_of (value_or_empty st (codes "PATH"))
directories_for (Some value) st = []

-- The course of a test that begins in this state. (own)
abbrev pub course_of : TestKind → State → Course
course_of (rows.Program s own) st = Program (record s { otherwise = first_of own s.otherwise }) (directories_for own st)
course_of (rows.Formed t) st = Formed (forms.course_of t st)

-- The course of a test whose name is set: it needs none of the values that attempts are made of. (own)
abbrev pub bare_of : TestKind → Course
bare_of (rows.Program s own) = Program s []
bare_of (rows.Formed t) = Formed (forms.bare_of t)

-- The course of a test, by the value of its name. (own)
abbrev pub course_by : Option (List ℕ) → TestKind → State → Course
course_by None kind st = course_of kind st
course_by (Some value) kind st = bare_of kind

-- The test of a course, as a statement has it. (own)
abbrev pub row_in : Course → State → Row
row_in c st = record {
  test = record { name = name_in c; message = message_in c; body = by_attempts (name_in c) (attempts_in c st.vars st.defs) (otherwise_in c); shown = shown_in c };
  ready = may_start (attempts_in c st.vars st.defs);
  after = used_in c;
}
