-- The value of a name after writes.
use Rattle.std.proofs.Common.{◌≡◌, ℕ, List, [], ◌∷◌, Bool, true, false, cond, ◌⊎◌, inl, inr, refl, sym, ap, ◌∙◌, subst, ⊎_elim}
use Rattle.std.specs.Prelude.{Option, Some, None, bytes_eq}
use Rattle.std.proofs.lemmas.Bool.{cases_Bool}
use Rattle.std.proofs.lemmas.Slice.Eq.{bytes_eq-Decides}
use Rattle.deftable.specs.Table.{value_of, with_entry, without_entry}

pub same_text : (a b : List ℕ) → bytes_eq a b ≡ true → a ≡ b
same_text a b h = (bytes_eq-Decides a b).0 h

pub same_self : (a : List ℕ) → bytes_eq a a ≡ true
same_self a = (bytes_eq-Decides a a).1 refl

pub not_same : (a b : List ℕ) → (a ≡ b → ⊥) → bytes_eq a b ≡ false
not_same a b h = ⊎_elim (λ t. absurd (h (same_text a b t))) (λ f. f) (cases_Bool (bytes_eq a b))

pub apart : (a b : List ℕ) → bytes_eq a b ≡ false → a ≡ b → ⊥
apart a b f e = let t : bytes_eq a b ≡ true = (bytes_eq-Decides a b).1 e in let z : true ≡ false = sym t ∙ f in cc

pub cond_true : {A : Type 0} (b : Bool) (x y : A) → b ≡ true → cond b x y ≡ x
cond_true b x y e = ap (λ c. cond c x y) e

pub cond_false : {A : Type 0} (b : Bool) (x y : A) → b ≡ false → cond b x y ≡ y
cond_false b x y e = ap (λ c. cond c x y) e

pub cases_value : (o : Option (List ℕ)) → (o ≡ None) ⊎ ((v : List ℕ) × (o ≡ Some v))
cases_value None = inl refl
cases_value (Some v) = inr (v, refl)

-- What the operations do to a list with a first entry.
abbrev pub Entries : Type 0
Entries = List (List ℕ × List ℕ)

pub value_first : (e : List ℕ × List ℕ) (es : Entries) (q : List ℕ) → bytes_eq q e.0 ≡ true → value_of (e ∷ es) q ≡ Some e.1
unfolding value_of
value_first e es q t = cond_true (bytes_eq q e.0) (Some e.1) (value_of es q) t

pub value_rest : (e : List ℕ × List ℕ) (es : Entries) (q : List ℕ) → bytes_eq q e.0 ≡ false → value_of (e ∷ es) q ≡ value_of es q
unfolding value_of
value_rest e es q f = cond_false (bytes_eq q e.0) (Some e.1) (value_of es q) f

pub with_first : (e : List ℕ × List ℕ) (es : Entries) (k v : List ℕ) → bytes_eq k e.0 ≡ true → with_entry (e ∷ es) k v ≡ (e.0, v) ∷ es
unfolding with_entry
with_first e es k v t = cond_true (bytes_eq k e.0) ((e.0, v) ∷ es) (e ∷ with_entry es k v) t

pub with_rest : (e : List ℕ × List ℕ) (es : Entries) (k v : List ℕ) → bytes_eq k e.0 ≡ false → with_entry (e ∷ es) k v ≡ e ∷ with_entry es k v
unfolding with_entry
with_rest e es k v f = cond_false (bytes_eq k e.0) ((e.0, v) ∷ es) (e ∷ with_entry es k v) f

pub without_first : (e : List ℕ × List ℕ) (es : Entries) (k : List ℕ) → bytes_eq k e.0 ≡ true → without_entry (e ∷ es) k ≡ es
unfolding without_entry
without_first e es k t = cond_true (bytes_eq k e.0) es (e ∷ without_entry es k) t

pub without_rest : (e : List ℕ × List ℕ) (es : Entries) (k : List ℕ) → bytes_eq k e.0 ≡ false → without_entry (e ∷ es) k ≡ e ∷ without_entry es k
unfolding without_entry
without_rest e es k f = cond_false (bytes_eq k e.0) es (e ∷ without_entry es k) f

-- The value of the name that is written, and of another.
pub value_here : (es : Entries) (k v : List ℕ) → value_of (with_entry es k v) k ≡ Some v
unfolding with_entry
value_here [] k v = value_first (k, v) [] k (same_self k)
value_here (e ∷ es) k v =
    ⊎_elim
    (λ t. ap (λ l. value_of l k) (with_first e es k v t) ∙ value_first (e.0, v) es k t)
    (λ f. ap (λ l. value_of l k) (with_rest e es k v f) ∙ value_rest e (with_entry es k v) k f ∙ value_here es k v)
    (cases_Bool (bytes_eq k e.0))

pub value_there : (es : Entries) (k v q : List ℕ) → bytes_eq q k ≡ false → value_of (with_entry es k v) q ≡ value_of es q
unfolding with_entry
value_there [] k v q ne = value_rest (k, v) [] q ne
value_there (e ∷ es) k v q ne =
    ⊎_elim
    (λ t.
    let qe : bytes_eq q e.0 ≡ false = subst (λ x. bytes_eq q x ≡ false) (same_text k e.0 t) ne in
    ap (λ l. value_of l q) (with_first e es k v t) ∙ value_rest (e.0, v) es q qe ∙ sym (value_rest e es q qe))
    (λ f.
    ap (λ l. value_of l q) (with_rest e es k v f)
    ∙ ⊎_elim
    (λ a. value_first e (with_entry es k v) q a ∙ sym (value_first e es q a))
    (λ b. value_rest e (with_entry es k v) q b ∙ value_there es k v q ne ∙ sym (value_rest e es q b))
    (cases_Bool (bytes_eq q e.0)))
    (cases_Bool (bytes_eq k e.0))

-- A name that is unset has no entry.
pub head_value : (e : List ℕ × List ℕ) (es : Entries) (k : List ℕ) → value_of (e ∷ es) k ≡ None → bytes_eq k e.0 ≡ false
head_value e es k h = ⊎_elim (λ t. let z : Some e.1 ≡ None = sym (value_first e es k t) ∙ h in cc) (λ f. f) (cases_Bool (bytes_eq k e.0))

pub tail_value : (e : List ℕ × List ℕ) (es : Entries) (k : List ℕ) → value_of (e ∷ es) k ≡ None → value_of es k ≡ None
tail_value e es k h = sym (value_rest e es k (head_value e es k h)) ∙ h

pub without_unset : (es : Entries) (k : List ℕ) → value_of es k ≡ None → without_entry es k ≡ es
unfolding without_entry
without_unset [] k h = refl
without_unset (e ∷ es) k h = without_rest e es k (head_value e es k h) ∙ ap (λ l. e ∷ l) (without_unset es k (tail_value e es k h))
