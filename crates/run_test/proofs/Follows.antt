-- The attempts of a test, one after the other.
use Rattle.std.proofs.Common.{◌≡◌, ℕ, zero, suc, ◌+◌, ◌<◌, Bool, true, cond, List, [], ◌∷◌, length, refl, sym, ap, ◌∙◌, subst, arith, Result, Ok, Err, IfOk, OnOk}
use Rattle.std.specs.Prelude.{not, Option, Some, None, is_some, option_map, slice_get, drop}
use Rattle.std.specs.declared.alloc.AllocError.{AllocError}
use Rattle.std.proofs.Math.Path.{fun_ext}
use Rattle.crew_jobs.specs.declared.job.Job.{Job}
use Rattle.crew_trait.specs.declared.reply.Reply.{Reply}
use Rattle.meaning.specs.State.{State, Scope, How, with_child, Stopped, Run, Ends, Asks}
use Rattle.meaning.specs.Tests.{checking}
use Rattle.meaning.specs.Asking as asking
use Rattle.meaning.specs.Asking.{child, compiled, attempted, same, after_child, success, only_reply, without_compiler}
use Rattle.plan.specs.Broken.{broken_all}
use Rattle.run_test.specs.declared.course.Course.{Course}
use Rattle.run_test.specs.declared.course.Trial.{Trial}
use Rattle.run_forms.specs.declared.attempts.Attempt.{Attempt}
use Rattle.run_test.specs.declared.flow.Flow.{Flow}
use Rattle.run_test.specs.declared.flow.Flow.TheVariants as flow
use Rattle.run_forms.specs.Attempts.{attempt_of}
use Rattle.run_test.specs.Attempts.{IsAttempt, lacks_job}
use Rattle.run_test.specs.Flows.{Leads, Led}
use Rattle.run_test.specs.Runs.{begun_run, trying_run}
use Rattle.meaning.specs.Forms.{may_start}
use Rattle.run_test.specs.Courses.{name_in, message_in, attempts_in, count_in, otherwise_in}
use Rattle.run_test.specs.Trying.{test_end, trying, after_attempt, moved, scope_otherwise, state_otherwise, stopped_in}
use Rattle.run_test.proofs.Rows.{count_is}

-- ---- places

left_none : {A : Type 0} (xs : List A) (i : ℕ) → slice_get xs i ≡ None → drop i xs ≡ []
left_none [] zero e = refl
left_none [] (suc i) e = refl
left_none (x ∷ xs) zero e = cc
left_none (x ∷ xs) (suc i) e = left_none xs i e

left_some : {A : Type 0} (xs : List A) (i : ℕ) (a : A) → slice_get xs i ≡ Some a → drop i xs ≡ a ∷ drop (i + 1) xs
left_some [] i a e = cc
left_some (x ∷ xs) zero a e = let s : x ≡ a = cc in ap (λ y. y ∷ xs) s
left_some (x ∷ xs) (suc i) a e = let n : suc i + 1 ≡ suc (i + 1) = omega arith in left_some xs i a e ∙ ap (λ k. a ∷ drop k (x ∷ xs)) (sym n)

before_end : {A : Type 0} (xs : List A) (i : ℕ) (a : A) → slice_get xs i ≡ Some a → i < length xs
before_end [] i a e = absurd cc
before_end (x ∷ xs) zero a e = omega arith
before_end (x ∷ xs) (suc i) a e = omega (arith, before_end xs i a e)

-- The place of an attempt that was made is before the end.
pub place_before : (c : Course) (st : State) (place : ℕ) (a : Attempt) → IsAttempt c st place (Some a) → place < count_in c
place_before c st place a h =
    omega (arith, before_end (attempts_in c st.vars st.defs) place (attempt_of a) (sym h.attempt), count_is c st.vars st.defs)

-- ---- what follows a child

-- A child changes neither variables nor definitions.
by_reply : (early : How → State → State) (tests : List (List ℕ)) (t : Trial) (ends_on : Bool) (value : List ℕ) (job : Job) (next : Scope → State → Run) (scope : Scope) (st : State) (o : Option Bool) (r : Reply)
    → early ≡ broken_all (name_in t.course ∷ tests)
    → after_child early o (with_child job r st) (λ b now. cond (same ends_on b) (test_end t.course (Some value) next scope now) (attempted early (drop t.next (attempts_in t.course st.vars st.defs)) (otherwise_in t.course) now (λ v later. test_end t.course v next scope later)))
    ≡ after_child early o (with_child job r st) (λ b now. after_attempt tests t value (same ends_on b) next scope now)
by_reply early tests t ends_on value job next scope st None r e = refl
by_reply early tests t ends_on value job next scope st (Some b) r e =
    ap (λ x. cond (same ends_on b) (test_end t.course (Some value) next scope (with_child job r st)) (attempted x (drop t.next (attempts_in t.course st.vars st.defs)) (otherwise_in t.course) (with_child job r st) (λ v later. test_end t.course v next scope later))) e

-- The attempts that are left begin with the one at the place.
begins_with : (tests : List (List ℕ)) (t : Trial) (a : Attempt) (next : Scope → State → Run) (scope : Scope) (st : State) → IsAttempt t.course st t.next (Some a)
    → trying tests t next scope st
    ≡ compiled (broken_all (name_in t.course ∷ tests)) a.job st (λ b now. cond (same a.ends_on b) (test_end t.course (Some a.value) next scope now)
    (attempted (broken_all (name_in t.course ∷ tests)) (drop (t.next + 1) (attempts_in t.course st.vars st.defs)) (otherwise_in t.course) now (λ v later. test_end t.course v next scope later)))
begins_with tests t a next scope st h =
    ap (λ l. attempted (broken_all (name_in t.course ∷ tests)) l (otherwise_in t.course) st (λ v now. test_end t.course v next scope now)) (left_some (attempts_in t.course st.vars st.defs) t.next (attempt_of a) (sym h.attempt))

-- The job of the attempt is asked for.
pub attempt_follows : (tests : List (List ℕ)) (t : Trial) (a : Attempt) (job : Job) (next : Scope → State → Run) (scope : Scope) (st : State) → IsAttempt t.course st t.next (Some a) → a.job ≡ Some job
    → child (broken_all (name_in t.course ∷ tests)) job st (λ b now. after_attempt tests (moved t) a.value (same a.ends_on b) next scope now) ≡ trying tests t next scope st
attempt_follows tests t a job next scope st h asks =
    let early : How → State → State = broken_all (name_in t.course ∷ tests) in
    sym (begins_with tests t a next scope st h
    ∙ ap (λ j. compiled early j st (λ b now. cond (same a.ends_on b) (test_end t.course (Some a.value) next scope now) (attempted early (drop (t.next + 1) (attempts_in t.course st.vars st.defs)) (otherwise_in t.course) now (λ v later. test_end t.course v next scope later)))) asks
    ∙ ap (Asks (job ∷ [])) (fun_ext (λ replies. by_reply early tests (moved t) a.ends_on a.value job next scope st (success (only_reply replies)) (only_reply replies) refl)))

-- There is no compiler for it.
pub attempt_stops : (tests : List (List ℕ)) (t : Trial) (a : Attempt) (next : Scope → State → Run) (scope : Scope) (st : State) → IsAttempt t.course st t.next (Some a) → a.job ≡ None
    → trying tests t next scope st ≡ without_compiler (broken_all (name_in t.course ∷ tests)) st
attempt_stops tests t a next scope st h none =
    let early : How → State → State = broken_all (name_in t.course ∷ tests) in
    begins_with tests t a next scope st h
    ∙ ap (λ j. compiled early j st (λ b now. cond (same a.ends_on b) (test_end t.course (Some a.value) next scope now) (attempted early (drop (t.next + 1) (attempts_in t.course st.vars st.defs)) (otherwise_in t.course) now (λ v later. test_end t.course v next scope later)))) none

-- No attempt is left.
pub attempts_end : (tests : List (List ℕ)) (t : Trial) (next : Scope → State → Run) (scope ended : Scope) (st now : State) → IsAttempt t.course st t.next None → ended ≡ scope_otherwise t.course scope st → now ≡ state_otherwise t.course st
    → trying tests t next scope st ≡ next ended now
attempts_end tests t next scope ended st now h answers ends =
    ap (λ l. attempted (broken_all (name_in t.course ∷ tests)) l (otherwise_in t.course) st (λ v later. test_end t.course v next scope later)) (left_none (attempts_in t.course st.vars st.defs) t.next (sym h.attempt))
    ∙ ap (λ a. next a (state_otherwise t.course st)) (sym answers) ∙ ap (next ended) (sym ends)

-- ---- the first attempt

first_lacks : (xs : List asking.Attempt) (made : Option Attempt) → option_map attempt_of made ≡ slice_get xs 0 → may_start xs ≡ not (lacks_job made)
first_lacks [] None e = refl
first_lacks [] (Some a) e = cc
first_lacks (x ∷ xs) None e = cc
first_lacks (x ∷ xs) (Some a) e = ap (λ (y : asking.Attempt). is_some y.job) (one_of e) ∙ has a.job
  where
    one_of : Some (attempt_of a) ≡ Some x → x ≡ attempt_of a
    one_of s = cc

    has : (j : Option Job) → is_some j ≡ not (not (is_some j))
    has None = refl
    has (Some j) = refl

-- A test may start unless its first attempt has no job.
pub starts_if : (c : Course) (st : State) (made : Option Attempt) (lacks : Bool) → IsAttempt c st 0 made → lacks ≡ lacks_job made → may_start (attempts_in c st.vars st.defs) ≡ not lacks
starts_if c st made lacks h is = first_lacks (attempts_in c st.vars st.defs) made h.attempt ∙ ap not (sym is)

-- ---- flows

-- The run stops inside the test.
pub stop_follows : (r : Result Flow AllocError) (t : Trial) (a : Attempt) (scope : Scope) (st now : State) → IsAttempt t.course st t.next (Some a) → a.job ≡ None → IfOk r (λ f. f ≡ flow.Stop 1) → OnOk r (now ≡ stopped_in t.course st)
    → Led r (trying_run t scope st) scope now
stop_follows (Ok f) t a scope st now h none stops breaks =
    subst (λ x. Leads x (trying_run t scope st) scope now) (sym stops)
    (λ tests next. attempt_stops tests t a (next 0) scope st h none ∙ ap (λ s. Ends (Stopped 1) (broken_all tests (Stopped 1) s)) (sym breaks))
stop_follows (Err e) t a scope st now h none stops breaks = stops

-- A test that may start goes on with its attempts, after what it checks is printed.
pub begins_from : (c : Course) (now st : State) (scope : Scope) (tests : List (List ℕ)) (next : ℕ → Scope → State → Run) → may_start (attempts_in c st.vars st.defs) ≡ true → now ≡ checking (message_in c) st
    → trying_run (record { course = c; next = 0 }) scope now tests next ≡ begun_run c scope st tests next
begins_from c now st scope tests next starts is =
    ap (λ s. trying_run (record { course = c; next = 0 }) scope s tests next) is
    ∙ sym (ap (λ b. cond b (trying tests (record { course = c; next = 0 }) (next 0) scope (checking (message_in c) st)) (without_compiler (broken_all tests) st)) starts)
