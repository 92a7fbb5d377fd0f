-- How the test of a kind begins, as its course.
use Rattle.std.proofs.Common.{◌≡◌, ℕ, ◌≤◌, Bool, true, false, cond, List, [], ◌∷◌, ◌++◌, codes, refl, sym, ap, ◌∙◌, subst}
use Rattle.std.specs.Prelude.{Option, Some, None, drop}
use Rattle.std.proofs.Math.Path.{fun_ext}
use Rattle.deftable.specs.Table.{value_of}
use Rattle.meaning.specs.State.{State, Scope, How, as_is, Run, Ends, Goes_on, then_run}
use Rattle.meaning.specs.Asking.{Attempt, same, compiled, attempted, without_compiler}
use Rattle.meaning.specs.Rows.{TestKind, name_of}
use Rattle.meaning.specs.Forms.{may_start}
use Rattle.meaning.specs.Tests.{Row, guarded, by_attempts, checking, with_result, with_value, may_begin, test_by, tested, tested_by}
use Rattle.plan.specs.Broken.{broken_all, guarded_all}
use Rattle.plan.proofs.Endings.{then_then, guarded_then, guarded_inner, Carries, then_carries, ended_carries, compiled_carried}
use Rattle.run_test.specs.declared.course.Course.{Course}
use Rattle.run_test.specs.Courses.{name_in, message_in, attempts_in, count_in, otherwise_in, shown_in, used_in, scope_in, course_of, course_by, row_in}
use Rattle.run_test.specs.Runs.{kind_run, started_run}
use Rattle.run_test.specs.Trying.{known_in, test_end, trying}
use Rattle.run_test.specs.Starts.{Opens, most_of}
use Rattle.run_test.specs.declared.trying.Opening.{Opening}
use Rattle.run_test.proofs.Rows.{LeavesScope, bare_asks, bare_known, course_asks, leaves, row_is}

-- ---- attempts, one after the other

either_carried : (f : Run → Run) (b : Bool) (x y : Run) → f (cond b x y) ≡ cond b (f x) (f y)
either_carried f true x y = refl
either_carried f false x y = refl

attempted_carried : (f : Run → Run) (early other : How → State → State) → Carries f early other → (attempts : List Attempt) (otherwise : Option (List ℕ)) (st : State) (go : Option (List ℕ) → State → Run)
    → f (attempted early attempts otherwise st go) ≡ attempted other attempts otherwise st (λ value now. f (go value now))
attempted_carried f early other c [] otherwise st go = refl
attempted_carried f early other c (a ∷ more) otherwise st go =
    compiled_carried f early other c a.job st (λ b now. cond (same a.ends_on b) (go a.value now) (attempted early more otherwise now go))
    ∙ ap (compiled other a.job st) (fun_ext (λ b. fun_ext (λ now.
    either_carried f (same a.ends_on b) (go a.value now) (attempted early more otherwise now go)
    ∙ ap (cond (same a.ends_on b) (f (go a.value now))) (attempted_carried f early other c more otherwise now go))))

attempts_complete : (tests : List (List ℕ)) (name : List ℕ) (print keep : State → State) (next : State → Run) (attempts : List Attempt) (otherwise : Option (List ℕ)) (st : State)
    → then_run (guarded_all tests (then_run (then_run (guarded name (by_attempts name attempts otherwise st)) (λ now. Ends Goes_on (print now))) (λ now. Ends Goes_on (keep now)))) next
    ≡ attempted (broken_all (name ∷ tests)) attempts otherwise st (λ value now. next (keep (print (with_value name value now))))
attempts_complete tests name print keep next attempts otherwise st =
    let body = by_attempts name attempts otherwise st in
    let go = λ (value : Option (List ℕ)) (now : State). Ends Goes_on (with_value name value now) in
    let last = λ (now : State). Ends Goes_on (keep (print now)) in
    ap (λ r. then_run (guarded_all tests r) next) (then_then (guarded name body) (λ now. Ends Goes_on (print now)) (λ now. Ends Goes_on (keep now)))
    ∙ ap (λ r. then_run r next) (guarded_then tests (guarded name body) last ∙ ap (λ r. then_run r (λ now. guarded_all tests (last now))) (guarded_inner tests name body))
    ∙ then_then (guarded_all (name ∷ tests) body) (λ now. guarded_all tests (last now)) next
    ∙ ap (λ r. then_run r (λ now. next (keep (print now))))
    (attempted_carried (guarded_all (name ∷ tests)) as_is (broken_all (name ∷ tests)) (ended_carries (name ∷ tests) as_is) attempts otherwise st go)
    ∙ attempted_carried (λ r. then_run r (λ now. next (keep (print now)))) (broken_all (name ∷ tests)) (broken_all (name ∷ tests)) (then_carries (broken_all (name ∷ tests)) (λ now. next (keep (print now))))
    attempts otherwise st go

-- ---- the test of a course

from_first : {A : Type 0} (xs : List A) → drop 0 xs ≡ xs
from_first [] = refl
from_first (x ∷ xs) = refl

-- What follows the test of a course.
abbrev pub after_test : Course → (Scope → State → Run) → Scope → State → Run
after_test c next scope now = next (scope_in c (value_of now.vars (name_in c)) scope) now

course_begins : (ready : Bool) (c : Course) (st : State) (tests : List (List ℕ)) (next : Scope → State → Run) (scope : Scope) → LeavesScope c
    → value_of st.vars (name_in c) ≡ None → may_start (attempts_in c st.vars st.defs) ≡ ready
    → then_run (guarded_all tests (tested (row_in c st) st)) (after_test c next scope)
    ≡ cond ready (trying tests (record { course = c; next = 0 }) next scope (checking (message_in c) st)) (without_compiler (broken_all tests) st)
course_begins true c st tests next scope keeps unset ready =
    let row = row_in c st in
    let first = checking (message_in c) st in
    let attempts = attempts_in c st.vars st.defs in
    ap (λ v. then_run (guarded_all tests (tested_by (may_begin v row.ready) row st)) (after_test c next scope)) unset
    ∙ ap (λ b. then_run (guarded_all tests (tested_by b row st)) (after_test c next scope)) ready
    ∙ ap (λ v. then_run (guarded_all tests (then_run (test_by v row.test first) (λ now. Ends Goes_on (row.after (value_of now.vars (name_in c)) now)))) (after_test c next scope)) unset
    ∙ attempts_complete tests (name_in c) (λ now. with_result (shown_in c (value_of now.vars (name_in c))) now) (λ now. used_in c (value_of now.vars (name_in c)) now) (after_test c next scope) attempts (otherwise_in c) first
    ∙ ap (attempted (broken_all (name_in c ∷ tests)) attempts (otherwise_in c) first) (fun_ext (λ value. fun_ext (λ now. ends value now)))
    ∙ ap (λ l. attempted (broken_all (name_in c ∷ tests)) l (otherwise_in c) first (λ value now. test_end c value next scope now)) (sym (from_first attempts))
  where
    ends : (value : Option (List ℕ)) (now : State)
        → after_test c next scope (used_in c (value_of (with_value (name_in c) value now).vars (name_in c)) (with_result (shown_in c (value_of (with_value (name_in c) value now).vars (name_in c))) (with_value (name_in c) value now)))
        ≡ test_end c value next scope now
    ends value now =
        let set = with_value (name_in c) value now in
        let v = value_of set.vars (name_in c) in
        let shown = with_result (shown_in c v) set in
        ap (λ s. next s (used_in c v shown)) (keeps v scope shown)
course_begins false c st tests next scope keeps unset ready =
    let row = row_in c st in
    ap (λ v. then_run (guarded_all tests (tested_by (may_begin v row.ready) row st)) (after_test c next scope)) unset
    ∙ ap (λ b. then_run (guarded_all tests (tested_by b row st)) (after_test c next scope)) ready

course_cached : (c : Course) (st : State) (tests : List (List ℕ)) (next : Scope → State → Run) (scope : Scope) (value : List ℕ) → LeavesScope c
    → value_of st.vars (name_in c) ≡ Some value
    → then_run (guarded_all tests (tested (row_in c st) st)) (after_test c next scope) ≡ next (scope_in c (Some value) scope) (known_in c (Some value) st)
course_cached c st tests next scope value keeps set =
    let row = row_in c st in
    let first = checking (message_in c) st in
    let last = with_result (codes "(cached) " ++ shown_in c (Some value)) first in
    ap (λ v. then_run (guarded_all tests (tested_by (may_begin v row.ready) row st)) (after_test c next scope)) set
    ∙ ap (λ v. then_run (guarded_all tests (then_run (test_by v row.test first) (λ now. Ends Goes_on (row.after (value_of now.vars (name_in c)) now)))) (after_test c next scope)) set
    ∙ ap (λ v. after_test c next scope (used_in c v last)) set
    ∙ ap (λ s. next s (used_in c (Some value) last)) (keeps (Some value) scope last ∙ ap (λ v. scope_in c v scope) set)

-- ---- the test of a kind

-- The test of a kind is that of its course.
as_course : (kind : TestKind) (scope : Scope) (st : State) (tests : List (List ℕ)) (next : ℕ → Scope → State → Run)
    → kind_run kind scope st tests next ≡ then_run (guarded_all tests (tested (row_in (course_of kind st) st) st)) (after_test (course_of kind st) (next 0) scope)
as_course kind scope st tests next =
    let c = course_of kind st in
    ap (λ (r : Row). then_run (guarded_all tests (tested r st)) (λ now. next 0 (scope_in c (value_of now.vars r.test.name) scope) now)) (row_is kind st)

-- A test of a kind begins as its course, by the value of its name.
pub kind_starts : (kind : TestKind) (value : Option (List ℕ)) (scope : Scope) (st : State) (tests : List (List ℕ)) (next : ℕ → Scope → State → Run) → value ≡ value_of st.vars (name_of kind)
    → started_run value (course_by value kind st) scope st tests next ≡ kind_run kind scope st tests next
kind_starts kind None scope st tests next is =
    let c = course_of kind st in
    let name : name_of kind ≡ name_in c = ap (λ (r : Row). r.test.name) (row_is kind st) in
    let unset : value_of st.vars (name_in c) ≡ None = ap (value_of st.vars) (sym name) ∙ sym is in
    sym (as_course kind scope st tests next ∙ course_begins (may_start (attempts_in c st.vars st.defs)) c st tests (next 0) scope (leaves kind st) unset refl)
kind_starts kind (Some value) scope st tests next is =
    let c = course_of kind st in
    let name : name_of kind ≡ name_in c = ap (λ (r : Row). r.test.name) (row_is kind st) in
    let set : value_of st.vars (name_in c) ≡ Some value = ap (value_of st.vars) (sym name) ∙ sym is in
    sym (as_course kind scope st tests next ∙ course_cached c st tests (next 0) scope value (leaves kind st) set ∙ bare_known kind value scope st tests next)

-- How many jobs it may ask for.
asks_by : (value : Option (List ℕ)) (kind : TestKind) (st : State) → count_in (course_by value kind st) ≤ most_of kind
asks_by None kind st = course_asks kind st
asks_by (Some value) kind st = bare_asks kind

pub opening_asks : (kind : TestKind) (st : State) (o : Opening) → Opens kind st o → count_in o.course ≤ most_of kind
opening_asks kind st o h = subst (λ c. count_in c ≤ most_of kind) (sym h.course) (asks_by o.value kind st)

pub opening_starts : (kind : TestKind) (o : Opening) (scope : Scope) (st : State) (tests : List (List ℕ)) (next : ℕ → Scope → State → Run) → Opens kind st o
    → started_run o.value o.course scope st tests next ≡ kind_run kind scope st tests next
opening_starts kind o scope st tests next h =
    ap (λ c. started_run o.value c scope st tests next) h.course ∙ kind_starts kind o.value scope st tests next h.value
