-- Laws of courses.
use Rattle.std.specs.Prelude.{◌≡◌, ℕ, List, Option, length}
use Rattle.deftable.specs.Table.{value_of}
use Rattle.meaning.specs.State.{State}
use Rattle.meaning.specs.Rows.{Formed, row_of}
use Rattle.meaning.specs.Forms.{FormTest, Table, form_name, form_used}
use Rattle.test_forms.specs.Form.{TestForm}
use Rattle.run_forms.specs.declared.course.FormCourse.{FormCourse}
use Rattle.run_forms.specs.Courses.{attempts_in, bare_of, course_of, row_in}
use Rattle.run_forms.specs.Ends.{known}

-- The row of a test is that of its course: name, message, attempts, the value if none of them ends the test, what is shown,
-- whether it can begin, and what is done with the value. (own)
abbrev pub RowsAreOfCourses : Type 0
RowsAreOfCourses = (t : FormTest) (st : State) → row_of (Formed t) st ≡ row_in (course_of t st) st

-- A course has as many attempts as its form has tries. (own)
abbrev pub CountsAreOfAttempts : Type 0
CountsAreOfAttempts = (c : FormCourse) (vars defs : Table) → length (attempts_in c vars defs) ≡ length c.form.tries

-- What is done with a value leaves the name of the test as it is. (own)
abbrev pub UsedLeaveNames : Type 0
UsedLeaveNames = (form : TestForm) (value : Option (List ℕ)) (st : State) → value_of (form_used form value st).vars (form_name form) ≡ value_of st.vars (form_name form)

-- If the name is set, the course without the value that was given ends as the course with it. (own)
abbrev pub KnownAreBare : Type 0
KnownAreBare = (t : FormTest) (value : List ℕ) (st now : State) → known (bare_of t) value now ≡ known (course_of t st) value now
