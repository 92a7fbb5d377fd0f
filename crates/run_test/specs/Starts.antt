-- The tests that a plan's steps begin.
use Rattle.std.specs.Prelude.{◌≡◌, ℕ, Bool, None, Some, Result, IfOk, length}
use Rattle.deftable.specs.Table.{value_of}
use Rattle.std.specs.declared.alloc.AllocError.{AllocError}
use Rattle.meaning.specs.State.{State, Scope, value_or_empty}
use Rattle.meaning.specs.Rows.{TestKind, Search, Program, name_of, value_if, Formed}
use Rattle.plan.specs.Inside.{most_directories}
use Rattle.run_test.specs.declared.course.Course.{Course}
use Rattle.run_test.specs.declared.course.Course.TheVariants.{Formed}
use Rattle.run_test.specs.declared.trying.Opening.{Opening}
use Rattle.run_test.specs.declared.flow.Flow.{Flow}
use Rattle.run_test.specs.Flows.{IsStep, Led}
use Rattle.run_test.specs.Runs.{kind_run}
use Rattle.run_test.specs.Courses.{course_by, course_of}

-- An opening is that of a kind: it has the value of the test's name, and the test's course by that value. (own)
pub record Opens (kind : TestKind) (st : State) (o : Opening) : Type 0 where
  pub value : o.value ≡ value_of st.vars (name_of kind)
  pub course : o.course ≡ course_by o.value kind st

-- If the opening is that of a kind, the flow continues the test of this kind, from one subject and state to others. (own)
abbrev pub Begins : Opening → Result Flow AllocError → Scope → Scope → State → State → Type 0
Begins o result scope about st now = (kind : TestKind) → Opens kind st o → Led result (kind_run kind scope st) about now

-- How many jobs the test may ask for. (own)
abbrev pub most_of : TestKind → ℕ
most_of (Program s own) = most_directories
most_of (Formed t) = length t.form.tries

-- If the opening is that of a kind, no more jobs are asked for than the test of this kind may. (own)
abbrev pub AsksMost : Opening → State → Result Flow AllocError → Type 0
AsksMost o st result = (kind : TestKind) → Opens kind st o → IfOk result (IsStep (most_of kind) None)

-- The kind of test that looks for a program. The variable's own value counts if the Boolean is true. (own)
abbrev pub program_kind : Search → Bool → State → TestKind
program_kind s counts st = Program s (value_if counts (value_or_empty st s.variable))

-- The course of a search in the directories of PATH. (Autoconf's manual, "Generic Programs")
abbrev pub path_course : Search → State → Course
path_course s st = course_of (Program s None) st

-- The course of a search that has its variable's own value. (Autoconf's manual, "Generic Programs")
abbrev pub own_course : Search → State → Course
own_course s st = course_of (Program s (Some (value_or_empty st s.variable))) st
