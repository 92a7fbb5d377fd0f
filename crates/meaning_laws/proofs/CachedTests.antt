-- One test: set, unset, and broken.
use Rattle.std.proofs.Common.{◌≡◌, ℕ, Some, List, ◌++◌, codes, refl, sym, ap, ◌∙◌, subst, ⊎_elim}
use Rattle.deftable.specs.Table.{value_of, without_entry}
use Rattle.meaning.specs.State.{State, How, Goes_on, Ends, then_run}
use Rattle.meaning.specs.Tests.{Row, tested_by, may_begin, tested, Test, broken, guarded, checking, with_result, test_by, cached_test}
use Rattle.meaning_laws.specs.Ends.{AtEnds, Breaks}
use Rattle.meaning_laws.specs.Cached.{with_cached, SetTestsAskNothing, SetRowAsksNothing, IsUnset, StandsOnce, BrokenIsUnset}
use Rattle.meaning_laws.proofs.Values.{cases_value, once_unset}
use Rattle.meaning_laws.proofs.Endings.{ends_then, ends_ended}

pub set_cached : (t : Test) (value : List ℕ) (st : State) → value_of st.vars t.name ≡ Some value → cached_test t st ≡ Ends Goes_on (with_result (codes "(cached) " ++ t.shown (Some value)) (checking t.message st))
set_cached t value st e = ap (λ o. test_by o t (checking t.message st)) e

pub set_tests_ask_nothing : SetTestsAskNothing
set_tests_ask_nothing t st value e = set_cached t value st e

pub set_row : (r : Row) (value : List ℕ) (st : State) → value_of st.vars r.test.name ≡ Some value → tested r st ≡ Ends Goes_on (r.after (Some value) (with_cached r.test value st))
set_row r value st e =
    ap (λ o. tested_by (may_begin o r.ready) r st) e
    ∙ ap (λ run. then_run run (λ now. Ends Goes_on (r.after (value_of now.vars r.test.name) now))) (set_cached r.test value st e)
    ∙ ap (λ o. Ends Goes_on (r.after o (with_cached r.test value st))) e

pub set_row_asks_nothing : SetRowAsksNothing
set_row_asks_nothing r value st e = record { run = set_row r value st e; vars = refl; defs = refl }

pub unset_cached : (t : Test) (st : State) → IsUnset t.name st.vars
    → cached_test t st ≡ then_run (guarded t.name (t.body (checking t.message st))) (λ now. Ends Goes_on (with_result (t.shown (value_of now.vars t.name)) now))
unset_cached t st e = ap (λ o. test_by o t (checking t.message st)) e

-- What holds after the guard.
abbrev Middle : (How → State → Type 0) → (How → State → Type 0) → How → State → Type 0
Middle P Q Goes_on st = P Goes_on st
Middle P Q how st = Q how st

middle : (P Q : How → State → Type 0) (name : List ℕ) → ((how : How) (now : State) → Breaks how → P how now → Q how (broken name how now)) → (how : How) (now : State) → P how now → Middle P Q how (broken name how now)
middle P Q name off Goes_on now h = h
middle P Q name off how now h = off how now (λ e. cc) h

leaves : (P Q : How → State → Type 0) (how : How) (now : State) → Breaks how → Middle P Q how now → Q how now
leaves P Q Goes_on now breaks h = absurd (breaks refl)
leaves P Q _ now breaks h = h

-- A fact of the ends of a test from one of the ends of its body.
pub broken_ends : (P Q : How → State → Type 0) (t : Test) (st : State) → IsUnset t.name st.vars → AtEnds P (t.body (checking t.message st))
    → ((how : How) (now : State) → Breaks how → P how now → Q how (broken t.name how now))
    → ((now : State) → P Goes_on now → Q Goes_on (with_result (t.shown (value_of now.vars t.name)) now)) → AtEnds Q (cached_test t st)
broken_ends P Q t st e body off on =
    subst (AtEnds Q) (sym (unset_cached t st e))
    (ends_then (Middle P Q) Q (guarded t.name (t.body (checking t.message st))) _
    (ends_ended P (Middle P Q) (broken t.name) (t.body (checking t.message st)) body (λ how now h. middle P Q t.name off how now h))
    on
    (λ how now breaks m. leaves P Q how now breaks m))

pub broken_vars : (name : List ℕ) (how : How) (st : State) → Breaks how → (broken name how st).vars ≡ without_entry st.vars name
broken_vars name Goes_on st breaks = absurd (breaks refl)
broken_vars name _ st breaks = refl

-- A test that is set continues, so what holds of those that don't holds of it.
pub set_or_broken : (P : State → Type 0) (t : Test) (st : State) → (IsUnset t.name st.vars → AtEnds (λ how now. Breaks how → P now) (cached_test t st)) → AtEnds (λ how now. Breaks how → P now) (cached_test t st)
set_or_broken P t st h =
    ⊎_elim h (λ some. subst (AtEnds (λ how now. Breaks how → P now)) (sym (set_cached t some.0 st some.1)) (λ breaks. absurd (breaks refl))) (cases_value (value_of st.vars t.name))

pub broken_is_unset : BrokenIsUnset
broken_is_unset t st keeps =
    set_or_broken (λ now. IsUnset t.name now.vars) t st
    (λ e. broken_ends (λ how now. StandsOnce t.name now.vars) (λ how now. Breaks how → IsUnset t.name now.vars) t st e
    (keeps (checking t.message st) (once_unset st.vars t.name e))
    (λ how now breaks once again. ap (λ l. value_of l t.name) (broken_vars t.name how now breaks) ∙ once)
    (λ now once breaks. absurd (breaks refl)))
