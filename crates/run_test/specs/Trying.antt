-- The rest of a test, and its end.
use Rattle.std.specs.Prelude.{ℕ, ◌+◌, ◌-◌, Bool, List, ◌∷◌, ◌++◌, Option, Some, codes, drop, if◌then◌else◌}
use Rattle.deftable.specs.Table.{value_of}
use Rattle.deftable.specs.declared.note.Stream.TheVariants as streams
use Rattle.meaning.specs.State.{State, Scope, with_note, without_variable, Run}
use Rattle.meaning.specs.Asking.{attempted, no_compiler}
use Rattle.meaning.specs.Tests.{checking, with_result, with_value}
use Rattle.plan.specs.Broken.{broken_all}
use Rattle.run_test.specs.declared.course.Course.{Course}
use Rattle.run_test.specs.declared.course.Trial.{Trial}
use Rattle.run_test.specs.Courses.{name_in, message_in, attempts_in, count_in, otherwise_in, shown_in, used_in, scope_in}

-- The state at the end of a test, whose name has this value. (Autoconf's manual, "Caching Results")
abbrev pub ended_in : Course → Option (List ℕ) → State → State
ended_in c value st = used_in c value (with_result (shown_in c value) st)

-- The name of a test gets a value, if there is one, and then the value that the name has counts. (Autoconf's manual, "Caching
-- Results")
abbrev pub value_after : Course → Option (List ℕ) → State → Option (List ℕ)
value_after c value st = value_of (with_value (name_in c) value st).vars (name_in c)

-- The subject after the end of a test with a value, if there is one. (own)
abbrev pub scope_after : Course → Option (List ℕ) → Scope → State → Scope
scope_after c value scope st = scope_in c (value_after c value st) scope

-- The state after it. (Autoconf's manual, "Caching Results")
abbrev pub state_after : Course → Option (List ℕ) → State → State
state_after c value st = ended_in c (value_after c value st) (with_value (name_in c) value st)

-- The subject after the end of a test with this value. (own)
abbrev pub scope_set : Course → List ℕ → Scope → State → Scope
scope_set c value scope st = scope_after c (Some value) scope st

-- The state after it. (own)
abbrev pub state_set : Course → List ℕ → State → State
state_set c value st = state_after c (Some value) st

-- The subject after the end of a test that no attempt ended. (own)
abbrev pub scope_otherwise : Course → Scope → State → Scope
scope_otherwise c scope st = scope_after c (otherwise_in c) scope st

-- The state after it. (own)
abbrev pub state_otherwise : Course → State → State
state_otherwise c st = state_after c (otherwise_in c) st

-- The end of a test with a value, if there is one. (Autoconf's manual, "Caching Results")
abbrev pub test_end : Course → Option (List ℕ) → (Scope → State → Run) → Scope → State → Run
test_end c value next scope st = next (scope_after c value scope st) (state_after c value st)

-- The state at the end of a test, whose name was set. (Autoconf's manual, "Caching Results")
abbrev pub known_in : Course → Option (List ℕ) → State → State
known_in c value st = used_in c value (with_result (codes "(cached) " ++ shown_in c value) (checking (message_in c) st))

-- The rest of a test inside other tests: its next attempt and those after it. (Autoconf's manual, "Generic Programs")
abbrev pub trying : List (List ℕ) → Trial → (Scope → State → Run) → Scope → State → Run
trying tests trial next scope st =
    attempted (broken_all (name_in trial.course ∷ tests)) (drop trial.next (attempts_in trial.course st.vars st.defs)) (otherwise_in trial.course) st
    (λ value now. test_end trial.course value next scope now)

-- What follows an attempt inside these tests, by whether it ends the test: the end with the value of the attempt, or the
-- attempts that are left. (own)
abbrev pub after_attempt : List (List ℕ) → Trial → List ℕ → Bool → (Scope → State → Run) → Scope → State → Run
after_attempt tests trial value ends next scope st =
    if ends then test_end trial.course (Some value) next scope st else trying tests trial next scope st

-- The state of a run that wants a compiler inside a test, and has none: the name of the test is unset. (own)
abbrev pub stopped_in : Course → State → State
stopped_in c st = without_variable (name_in c) (with_note streams.Err no_compiler st)

-- How many attempts are left. (own)
abbrev pub left_in : Trial → ℕ
left_in trial = count_in trial.course - trial.next

-- The same test, one attempt further. (own)
abbrev pub moved : Trial → Trial
moved trial = record { course = trial.course; next = trial.next + 1 }
