-- What a sequence of readings that succeeds or fails implies for its parts.
use Rattle.std.proofs.Common.{◌≡◌, ◌⊎◌, inl, inr, Bool, true, false, cond, Result, Ok, Err, refl, ap, ◌∙◌}
use Rattle.fallible.specs.Reading.{◌>>=◌, wants}

-- a reading that succeeds
abbrev pub done : {A F : Type 0} → A → Result A F
done x = Ok x

-- a reading that fails
abbrev pub fault : {A F : Type 0} → F → Result A F
fault f = Err f

pub ok_is : {A F : Type 0} (x y : A) → done {F = F} x ≡ done y → x ≡ y
ok_is x y e = cc

pub err_is : {A F : Type 0} (f g : F) → fault {A = A} f ≡ fault {A = A} g → f ≡ g
err_is f g e = cc

pub failed : {A F : Type 0} {f : F} {x : A} → fault f ≡ done x → ⊥
failed e = cc

pub passed : {A F : Type 0} {f : F} {x : A} → done x ≡ fault f → ⊥
passed e = cc

-- the value of a step that did not fail
pub bind_ok : {A B F : Type 0} (r : Result A F) (f : A → Result B F) (y : B) → (r >>= f) ≡ Ok y → (x : A) × (r ≡ Ok x) × (f x ≡ Ok y)
bind_ok (Ok x) f y e = (x, refl, e)
bind_ok (Err d) f y e = absurd cc

-- the error of a step, or of what follows it
pub bind_err : {A B F : Type 0} (r : Result A F) (f : A → Result B F) (d : F) → (r >>= f) ≡ Err d → (r ≡ Err d) ⊎ ((x : A) × (r ≡ Ok x) × (f x ≡ Err d))
bind_err (Ok x) f d e = inr (x, refl, e)
bind_err {A} {B} {F} (Err g) f d e = inl (ap (λ (h : F). Err h) (err_is {A = B} g d e))

pub then_ok : {A B F : Type 0} (r : Result A F) (f : A → Result B F) (x : A) (y : Result B F) → r ≡ Ok x → f x ≡ y → (r >>= f) ≡ y
then_ok r f x y e h = ap (λ q. q >>= f) e ∙ h

-- ---- conditions

pub wants_ok : {F : Type 0} (b : Bool) (f : F) (u : Unit {0}) → wants b f ≡ Ok u → b ≡ true
wants_ok true f u e = refl
wants_ok false f u e = absurd cc

pub wants_true : {F : Type 0} (b : Bool) (f : F) → b ≡ true → wants b f ≡ Ok tt
wants_true b f e = ap (λ b. wants b f) e

pub wants_err : {F : Type 0} (b : Bool) (g f : F) → wants b g ≡ Err f → (b ≡ false) × (f ≡ g)
wants_err true g f e = absurd cc
wants_err false g f e = (refl, cc)

-- the branch that a test takes
pub chosen : {A : Type 0} (b : Bool) (x y z : A) → cond b x y ≡ z → ((b ≡ true) × (x ≡ z)) ⊎ ((b ≡ false) × (y ≡ z))
chosen true x y z e = inl (refl, e)
chosen false x y z e = inr (refl, e)
