-- Runs of tests, as functions of the tests around them and of what follows them.
use Rattle.std.specs.Prelude.{ℕ, Bool, List, ◌∷◌, Option, Some, None, if◌then◌else◌}
use Rattle.crew_jobs.specs.declared.job.Job.{Job}
use Rattle.deftable.specs.Table.{value_of}
use Rattle.meaning.specs.State.{State, Scope, answered, then_run}
use Rattle.meaning.specs.Asking.{child, same, without_compiler}
use Rattle.meaning.specs.Rows.{TestKind, row_of, name_of}
use Rattle.meaning.specs.Forms.{may_start}
use Rattle.meaning.specs.Tests.{checking, tested}
use Rattle.plan.specs.Broken.{broken_all, guarded_all}
use Rattle.run_test.specs.declared.course.Course.{Course}
use Rattle.run_test.specs.declared.course.Trial.{Trial}
use Rattle.run_test.specs.declared.wait.Wait.{Wait}
use Rattle.run_test.specs.Courses.{name_in, message_in, attempts_in, scope_in, course_of}
use Rattle.run_test.specs.Flows.{Inside}
use Rattle.run_test.specs.Trying.{known_in, trying, after_attempt}
use Rattle.run_test.specs.Waits.{after_reply}

-- The test of a kind. What follows it gets the subject that its course leaves. (own)
abbrev pub kind_run : TestKind → Scope → State → Inside
kind_run kind scope st tests next =
    then_run (guarded_all tests (tested (row_of kind st) st)) (λ now. next 0 (scope_in (course_of kind st) (value_of now.vars (name_of kind)) scope) now)

-- The beginning of a test whose name is unset. Without a compiler for its first attempt it stops before it prints. (own)
abbrev pub begun_run : Course → Scope → State → Inside
begun_run c scope st tests next =
    if may_start (attempts_in c st.vars st.defs)
    then trying tests (record { course = c; next = 0 }) (next 0) scope (checking (message_in c) st)
    else without_compiler (broken_all tests) st

-- A test whose name is set to a value. (own)
abbrev pub known_run : Course → List ℕ → Scope → State → Inside
known_run c value scope st tests next = next 0 (scope_in c (Some value) scope) (known_in c (Some value) st)

-- A test, by the value of its name. (own)
abbrev pub started_run : Option (List ℕ) → Course → Scope → State → Inside
started_run None c = begun_run c
started_run (Some value) c = known_run c value

-- The attempts of a test that are left. (own)
abbrev pub trying_run : Trial → Scope → State → Inside
trying_run trial scope st tests next = trying tests trial (next 0) scope st

-- A child of an attempt, and what follows it. (own)
abbrev pub attempt_run : Trial → Job → Bool → List ℕ → Scope → State → Inside
attempt_run trial job ends_on value scope st tests next =
    child (broken_all (name_in trial.course ∷ tests)) job st (λ b now. after_attempt tests trial value (same ends_on b) (next 0) scope now)

-- What follows an attempt, by whether it ends the test. (own)
abbrev pub next_run : Trial → List ℕ → Bool → Scope → State → Inside
next_run trial value ends scope st tests next = after_attempt tests trial value ends (next 0) scope st

-- A child whose success is the answer to the question of a choice. (own)
abbrev pub question_run : Job → Scope → State → Inside
question_run job scope st tests next = child (broken_all tests) job st (λ passed. next 0 (answered passed))

-- A child that is waited for alone, and what follows it. (own)
abbrev pub waiting_run : Wait → Job → Scope → State → Inside
waiting_run wait job scope st tests next = child (broken_all tests) job st (λ b now. after_reply tests wait b (next 0) scope now)
