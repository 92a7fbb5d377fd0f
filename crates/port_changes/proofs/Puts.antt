-- What is put in the place of a call.
use Rattle.std.proofs.Common.{◌≡◌, inl, inr, ℕ, List, true, Result, Ok, Err, Option, Some, None, map, subst, sym, ap, ◌∙◌}
use Rattle.std.specs.Prelude.{IfOk, IfSome}
use Rattle.std.specs.List.{list_all}
use Rattle.port_idioms.specs.Filled.{filled}
use Rattle.ac_calls.specs.Calls.{MacroCall}
use Rattle.port_spots.specs.Put.{IsPut, IsExactFor, IsNoted, MayPut, arg_text, is_space_or_return, put_for}
use Rattle.port_idioms.specs.declared.idioms.Idioms.{Idioms}
use Rattle.port_idioms.specs.declared.idioms.Idioms.TheVariants.{Exact, All}
use Rattle.port_spots.specs.Put as specs

pub idiom_puts : {V E : Type 0} (items : V → List ℕ) (r : Result (Option V) E) (text : List ℕ) (c : MacroCall) (args : List (List ℕ)) (indent it : List ℕ)
    → put_for text c ≡ Some it → args ≡ map (arg_text text) c.args → list_all is_space_or_return indent ≡ true
    → IfOk r (λ o. IfSome o (λ v. items v ≡ filled args indent it)) → IfOk r (λ o. IfSome o (λ v. IsPut text c (items v)))
idiom_puts items (Ok (Some v)) text c args indent it puts are spaces is =
    subst (IsPut text c) (sym (is ∙ ap (λ a. filled a indent it) are)) (specs.IsPut.idiom it indent puts spaces)
idiom_puts items (Ok None) text c args indent it puts are spaces is = tt
idiom_puts items (Err e) text c args indent it puts are spaces is = tt

-- What is exact for a call may be put.
pub exactly : {V E : Type 0} (items : V → List ℕ) (r : Result (Option V) E) (text : List ℕ) (c : MacroCall) → IsExactFor text c
    → IfOk r (λ o. IfSome o (λ v. IsPut text c (items v))) → IfOk r (λ o. IfSome o (λ v. IsPut text c (items v) × IsExactFor text c))
exactly items (Ok (Some v)) text c exact put = (put, exact)
exactly items (Ok None) text c exact put = tt
exactly items (Err e) text c exact put = tt

pub exact_may : (idioms : Idioms) (text : List ℕ) (c : MacroCall) (put : List ℕ) → IsPut text c put × IsExactFor text c → MayPut idioms text c put
unfolding MayPut
exact_may Exact text c put both = both
exact_may All text c put both = inl both

pub noted_may : {V E : Type 0} (items : V → List ℕ) (r : Result (Option V) E) (text : List ℕ) (c : MacroCall)
    → IfOk r (λ o. IfSome o (λ v. IsNoted text c (items v))) → IfOk r (λ o. IfSome o (λ v. MayPut All text c (items v)))
unfolding MayPut
noted_may items (Ok (Some v)) text c put = inr put
noted_may items (Ok None) text c put = tt
noted_may items (Err e) text c put = tt
