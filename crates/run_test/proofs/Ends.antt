-- The end of a test with a value.
use Rattle.std.proofs.Common.{◌≡◌, ℕ, List, Result, Ok, Err, OnOk, sym, ap, ◌∙◌}
use Rattle.std.specs.Prelude.{Option, Some}
use Rattle.meaning.specs.State.{State, Scope, with_variable}
use Rattle.meaning.proofs.Values.{value_here}
use Rattle.run_test.specs.declared.course.Course.{Course}
use Rattle.run_test.specs.Courses.{name_in, scope_in}
use Rattle.run_test.specs.Trying.{ended_in, scope_set, state_set, value_after}

-- A name that was set has that value.
set_here : (c : Course) (value : List ℕ) (st : State) → value_after c (Some value) st ≡ Some value
set_here c value st = value_here st.vars (name_in c) value

pub scope_is : {X E : Type 0} (r : Result X E) (c : Course) (value : List ℕ) (lent : Option (List ℕ)) (about ended : Scope) (st : State) → lent ≡ Some value → OnOk r (ended ≡ scope_in c lent about)
    → OnOk r (ended ≡ scope_set c value about st)
scope_is (Ok u) c value lent about ended st is h = h ∙ ap (λ v. scope_in c v about) (is ∙ sym (set_here c value st))
scope_is (Err e) c value lent about ended st is h = h

pub state_is : {X E : Type 0} (r : Result X E) (c : Course) (name value : List ℕ) (lent : Option (List ℕ)) (st set now : State) → lent ≡ Some value → name ≡ name_in c → set ≡ with_variable name value st
    → OnOk r (now ≡ ended_in c lent set) → OnOk r (now ≡ state_set c value st)
state_is (Ok u) c name value lent st set now same named is h =
    h ∙ ap (ended_in c lent) (is ∙ ap (λ n. with_variable n value st) named) ∙ ap (λ v. ended_in c v (with_variable (name_in c) value st)) (same ∙ sym (set_here c value st))
state_is (Err e) c name value lent st set now same named is h = h
