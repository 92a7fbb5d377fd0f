-- Laws of courses.
use Rattle.std.specs.Prelude.{◌≡◌, ℕ, List, Option, length}
use Rattle.meaning.specs.State.{State, Scope, answered}
use Rattle.meaning.specs.Rows as rows
use Rattle.meaning.specs.Rows.{TestKind, row_of}
use Rattle.meaning.specs.Forms.{Table, says_found}
use Rattle.run_test.specs.declared.course.Course.{Course}
use Rattle.run_test.specs.Courses.{attempts_in, count_in, course_of, row_in, scope_in}

-- A test is that of its course: name, message, attempts, the value if none of them ends the test, what is shown, whether it can
-- begin, and what is done with the value. (own)
abbrev pub RowsAreOfCourses : Type 0
RowsAreOfCourses = (kind : TestKind) (st : State) → row_of kind st ≡ row_in (course_of kind st) st

-- A course has as many attempts as its count says. (own)
abbrev pub CountsAreOfAttempts : Type 0
CountsAreOfAttempts = (c : Course) (vars defs : Table) → length (attempts_in c vars defs) ≡ count_in c

-- The subject after a test: the test of a form answers the question of the choice, and that of a program leaves the subject.
-- (own)
abbrev pub answer_of : TestKind → Option (List ℕ) → Scope → Scope
answer_of (rows.Program s own) value scope = scope
answer_of (rows.Formed t) value scope = answered (says_found t.form.says value)

-- What a course answers is what its kind does. (own)
abbrev pub ScopesAreOfKinds : Type 0
ScopesAreOfKinds = (kind : TestKind) (st : State) (value : Option (List ℕ)) (scope : Scope) → scope_in (course_of kind st) value scope ≡ answer_of kind value scope
