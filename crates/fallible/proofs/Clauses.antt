-- What a call returned, in the words of a relation: for the clauses of public calls.
use Rattle.std.proofs.Common.{◌≡◌, ◌⊎◌, inl, inr, Result, Ok, Err, refl, sym, subst}
use Rattle.std.specs.Prelude.{IfOk, IfErr}
use Rattle.fallible.specs.Reading.{GivesBy}

module _ {X Y F : Type 0} (fails : F → Result Y F → Type 0) (view : X → Y) (r : Result X F) (read : Result Y F) (given : GivesBy fails view r read) where
  -- what is returned satisfies the relation
  pub found : (Is : Y → Type 0) → ((y : Y) → read ≡ Ok y → Is y) → IfOk r (λ x. Is (view x))
  found Is holds = at r given where
    at : (r : Result X F) → GivesBy fails view r read → IfOk r (λ x. Is (view x))
    at (Ok x) e = holds (view x) e
    at (Err f) e = tt

  -- what satisfies the relation is returned
  pub only : (y : Y) → read ≡ Ok y → GivesBy fails view r (Ok y)
  only y is = subst (GivesBy fails view r) is given

  -- the error of the relation is returned
  pub named : (f : F) → read ≡ Err f → GivesBy fails view r (Err f)
  named f is = subst (GivesBy fails view r) is given

  module _ {memory : F} (or_memory : (f : F) → fails f read → (f ≡ memory) ⊎ (read ≡ Err f)) where
    -- the kind of the error, including out of memory
    pub kinds : (Kind : F → Type 0) → Kind memory → ((f : F) → read ≡ Err f → Kind f) → IfErr r Kind
    kinds Kind none holds = at r given where
      kind : (f : F) → (f ≡ memory) ⊎ (read ≡ Err f) → Kind f
      kind f (inl e) = subst Kind (sym e) none
      kind f (inr e) = holds f e

      at : (r : Result X F) → GivesBy fails view r read → IfErr r Kind
      at (Ok x) e = tt
      at (Err f) e = kind f (or_memory f e)

    -- an error that is returned is the one of the relation
    pub fault : (Breaks : F → Type 0) → ((f : F) → read ≡ Err f → Breaks f) → IfErr r (λ f. (f ≡ memory → ⊥) → Breaks f)
    fault Breaks holds = kinds (λ f. (f ≡ memory → ⊥) → Breaks f) (λ other. absurd (other refl)) (λ f e other. holds f e)

-- what equals the reading is given too
pub given_by : {X Y F : Type 0} (fails : F → Result Y F → Type 0) (view : X → Y) (r : Result X F) (read total : Result Y F) → total ≡ read
    → GivesBy fails view r read → GivesBy fails view r total
given_by fails view r read total e given = subst (GivesBy fails view r) (sym e) given
