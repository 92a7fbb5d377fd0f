-- Tests that have begun.
use Rattle.std.specs.Prelude.{◌≡◌, ℕ, Bool, List, [], Option, None, Some, unwrap_or, if◌then◌else◌}
use Rattle.deftable.specs.Table.{value_of}
use Rattle.shellword.specs.declared.part.Part.{Part}
use Rattle.meaning.specs.State.{State}
use Rattle.meaning.specs.Asking.{Attempt}
use Rattle.meaning.specs.Tests.{Row, by_attempts}
use Rattle.meaning.specs.Forms.{FormTest, Table, form_attempts, form_name, form_used, may_start, value_in}
use Rattle.test_forms.specs.Form.{TestForm}
use Rattle.run_forms.specs.declared.course.FormCourse.{FormCourse}
use Rattle.run_forms.specs.declared.opening.Opening.{Opening}

-- The course of a test that begins in this state. (own)
abbrev pub course_of : FormTest → State → FormCourse
course_of t st = record { form = t.form; given = value_in t.given st; name = form_name t.form }

-- The course of a form without the value that the test was given. (own)
abbrev pub bare_course : TestForm → FormCourse
bare_course form = record { form = form; given = None; name = form_name form }

-- The course of a test whose name is set: it needs none of the values that attempts are made of. (own)
abbrev pub bare_of : FormTest → FormCourse
bare_of t = bare_course t.form

-- The course of a test, by the value of its name. (own)
abbrev pub course_by : Option (List ℕ) → FormTest → State → FormCourse
course_by None t st = course_of t st
course_by (Some value) t st = bare_of t

-- An opening is that of a test: it has the value of the test's name, and the test's course by that value. (own)
pub record Opens (t : FormTest) (st : State) (o : Opening) : Type 0 where
  pub value : o.value ≡ value_of st.vars (form_name t.form)
  pub course : o.course ≡ course_by o.value t st

-- A text's value, unless the name of the test is set. (own)
abbrev pub value_unless : Bool → Option (List Part) → State → Option (List ℕ)
value_unless known text st = if known then None else value_in text st

-- The attempts. (Autoconf's manual, "Generic Headers" to "Library Files")
abbrev pub attempts_in : FormCourse → Table → Table → List Attempt
attempts_in c vars defs = form_attempts c.form c.given vars defs

-- The test of a course, as a statement has it. (own)
abbrev pub row_in : FormCourse → State → Row
row_in c st = record {
  test = record { name = c.name; message = c.form.message; body = by_attempts c.name (attempts_in c st.vars st.defs) (Some c.form.otherwise); shown = λ value. unwrap_or value [] };
  ready = may_start (attempts_in c st.vars st.defs);
  after = form_used c.form;
}
