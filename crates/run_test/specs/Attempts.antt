-- Attempts of the code, and the jobs that they are made of.
use Rattle.std.specs.Prelude.{ℕ, not, Bool, false, List, Some, None, Option, is_some}
use Rattle.crew_jobs.specs.declared.job.Job.{Job}
use Rattle.crew_jobs.specs.Probe.{job_of}
use Rattle.ac_tree.specs.declared.program.Try.{Try}
use Rattle.meaning.specs.State.{State}
use Rattle.meaning.specs.Tries.{first_probe}
use Rattle.run_forms.specs.Attempts.{IsAt}
use Rattle.run_forms.specs.declared.attempts.Attempt.{Attempt}
use Rattle.run_test.specs.declared.course.Course.{Course}
use Rattle.run_test.specs.Courses.{attempts_in}

-- The first job of a program that is tried, with its number; none if there is no compiler. (Autoconf's manual, "Running the
-- Compiler")
abbrev pub tried_job : Try → List ℕ → ℕ → State → Option Job
tried_job kind source number st = job_of (first_probe kind source) number st.vars st.defs

-- What was made is the attempt of a test at this place, or none if there is none. (own)
abbrev pub IsAttempt : Course → State → ℕ → Option Attempt → Type 0
IsAttempt c st place made = IsAt (attempts_in c st.vars st.defs) place made

-- An attempt that has no job. (own)
abbrev pub lacks_job : Option Attempt → Bool
lacks_job None = false
lacks_job (Some a) = not (is_some a.job)
