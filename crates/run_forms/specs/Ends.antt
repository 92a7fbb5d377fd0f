-- The ends of tests.
use Rattle.std.specs.Prelude.{ℕ, Bool, List, ◌++◌, Option, Some, None, codes}
use Rattle.meaning.specs.State.{State, with_variable, Cut}
use Rattle.meaning.specs.Batches.{yes_or_no}
use Rattle.meaning.specs.Forms.{form_used}
use Rattle.meaning.specs.Tests.{broken, with_result}
use Rattle.run_forms.specs.declared.course.FormCourse.{FormCourse}

-- The test ends with a value: its name gets it, it is printed, and what is done with it is done. (Autoconf's manual, "Caching
-- Results")
abbrev pub form_ended : FormCourse → List ℕ → State → State
form_ended c value st = form_used c.form (Some value) (with_result value (with_variable c.name value st))

-- The test ends with the value that its name had. (Autoconf's manual, "Caching Results")
abbrev pub known : FormCourse → List ℕ → State → State
known c value st = form_used c.form (Some value) (with_result (codes "(cached) " ++ value) st)

-- The test ends with what its child decided, if it answered. (own)
abbrev pub heard_end : Option Bool → FormCourse → State → State
heard_end None c st = broken c.name Cut st
heard_end (Some found) c st = form_ended c (yes_or_no found) st
