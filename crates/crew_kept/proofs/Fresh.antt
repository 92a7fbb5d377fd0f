-- A crew that has started nothing gets other records.
use Rattle.std.proofs.Common.{◌≡◌, ℕ, Bool, false, List, [], ◌∷◌, length, sym, ◌∙◌, subst, arith, refl, ◌⊎◌}
use Rattle.crew_trait.specs.Events.{Account}
use Rattle.answers_text.specs.declared.record.Record.{Record}
use Rattle.crew_kept.specs.declared.placed.Placed.{Placed}
use Rattle.crew_kept.specs.declared.placed.Waiting.{Waiting}
use Rattle.crew_kept.specs.declared.state.State.{State}
use Rattle.crew_kept.specs.declared.state.State.TheVariants.{Open, Lacked}
use Rattle.crew_kept.specs.Taking.{IsKeeping}
use Rattle.crew_kept.proofs.Keeping.{kept_begun}

pub no_items : {A : Type 0} (xs : List A) → length xs ≡ 0 → xs ≡ []
no_items [] is = refl
no_items (x ∷ xs) is = absurd (omega (arith, is))

-- The crew inside has no events then.
pub no_events : (a : Account) (records : List Record) (placed : List Placed) (waiting : List Waiting) (linked : Bool) (state : State) (events attempts : ℕ)
    → IsKeeping a records placed waiting linked state events attempts → events ≡ 0 → a.events ≡ []
no_events a records placed waiting linked state events attempts h none = no_items a.events (sym h.counted ∙ none)

pub kept_again : (a : Account) (records other : List Record) (placed : List Placed) (waiting : List Waiting) (linked : Bool) (state later : State) (events attempts : ℕ)
    → IsKeeping a records placed waiting linked state events attempts → placed ≡ [] → waiting ≡ [] → linked ≡ false → events ≡ 0 → attempts ≡ 0
    → (later ≡ Open) ⊎ (later ≡ Lacked) → IsKeeping a other placed waiting linked later events attempts
kept_again a records other placed waiting linked state later events attempts h no_placed no_waiting not_linked no_event none is =
    let tried : a.attempts ≡ 0 = omega (arith, h.tried, none) in
    let begun : IsKeeping a other placed waiting false later 0 0 =
    kept_begun a other placed waiting later is no_placed no_waiting (no_events a records placed waiting linked state events attempts h no_event) tried in
    subst (λ l. IsKeeping a other placed waiting l later events attempts) (sym not_linked)
    (subst (λ e. IsKeeping a other placed waiting false later e attempts) (sym no_event)
    (subst (λ n. IsKeeping a other placed waiting false later 0 n) (sym none) begun))
