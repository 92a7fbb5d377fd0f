-- How the table of names changes.
use Rattle.std.proofs.Common.{◌≡◌, ℕ, zero, suc, List, [], ◌∷◌, ◌++◌, Bool, true, false, ◌||◌, refl, sym, ap, ◌∙◌, length, take, get_or, min, ◌<◌, ◌+◌, append_assoc, subst, arith, Result, Ok, Err}
use Rattle.std.specs.Prelude.{bytes_eq, if◌then◌else◌, OnOk}
use Rattle.std.specs.List.{list_any}
use Rattle.std.proofs.lemmas.List.{append-nil, take_more}
use Rattle.indexmap.specs.IndexSet.{insert_key}
use Rattle.ac_tree.specs.Resumable.{first_alone}
use Rattle.deftable.specs.NameList.{has_name, with_name}
use Rattle.deftable.proofs.Names.{has_name-with_name, with_name-known, with_name-new}
use Rattle.ac_resumable.specs.Tested.{HasSameNames, Extends}

pub any_has : (names : List (List ℕ)) (k : List ℕ) → list_any (λ x. bytes_eq k x) names ≡ has_name names k
unfolding has_name
any_has [] k = refl
any_has (x ∷ names) k = ap (λ b. bytes_eq k x || b) (any_has names k)

pub insert_is : (names : List (List ℕ)) (k : List ℕ) → insert_key (λ a b. bytes_eq a b) names k ≡ with_name names k
insert_is names k = by (has_name names k) refl
  where
    by : (b : Bool) → has_name names k ≡ b → insert_key (λ a b. bytes_eq a b) names k ≡ with_name names k
    by true e = ap (λ c. if c then names else names ++ k ∷ []) (any_has names k ∙ e) ∙ sym (with_name-known names k e)
    by false e = ap (λ c. if c then names else names ++ k ∷ []) (any_has names k ∙ e) ∙ sym (with_name-new names k e)

-- ---- what a list has

pub has_joined : (a b : List (List ℕ)) (q : List ℕ) → has_name (a ++ b) q ≡ has_name a q || has_name b q
unfolding has_name
has_joined [] b q = refl
has_joined (x ∷ a) b q = ap (λ c. bytes_eq q x || c) (has_joined a b q) ∙ sym (or_assoc (bytes_eq q x) (has_name a q) (has_name b q))
  where
    or_assoc : (a b c : Bool) → (a || b) || c ≡ a || (b || c)
    or_assoc true b c = refl
    or_assoc false b c = refl

-- One name more.
pub one_more : (names : List (List ℕ)) (name : List ℕ) → HasSameNames (name ∷ names) (with_name names name)
unfolding has_name
one_more names name = λ q. sym (has_name-with_name names name q)

pub extends_one : (names : List (List ℕ)) (name : List ℕ) → Extends names (with_name names name)
extends_one names name = by (has_name names name) refl
  where
    by : (b : Bool) → has_name names name ≡ b → Extends names (with_name names name)
    by true e = ([], with_name-known names name e ∙ sym (append-nil names))
    by false e = (name ∷ [], with_name-new names name e)

pub extends_on : (a b c : List (List ℕ)) → Extends a b → Extends b c → Extends a c
extends_on a b c x y = (x.0 ++ y.0, y.1 ∙ ap (λ l. l ++ y.0) x.1 ∙ append_assoc a x.0 y.0)

pub first_is : (names : List (List ℕ)) (n : ℕ) → n ≡ min (length names) 1 → take n names ≡ first_alone names
first_is [] zero e = refl
first_is [] (suc n) e = refl
first_is (x ∷ more) n e = let one : n ≡ 1 = omega arith in ap (λ k. take k (x ∷ more)) one

-- One more of the names that are added.
pub added_more : (names old now new : List (List ℕ)) (i : ℕ) (name called : List ℕ) → i < length names → name ≡ get_or names i name → called ≡ name
    → HasSameNames (take i names ++ old) now → new ≡ with_name now called → HasSameNames (take (i + 1) names ++ old) new
unfolding has_name
added_more names old now new i name called lt at same h is =
    λ q.
    has_joined (take (i + 1) names) old q
    ∙ ap (λ l. has_name l q || has_name old q) (take_more names i name lt ∙ ap (λ x. take i names ++ x ∷ []) (sym at))
    ∙ ap (λ b. b || has_name old q) (has_joined (take i names) (name ∷ []) q)
    ∙ turned (has_name (take i names) q) (bytes_eq q name) (has_name old q)
    ∙ ap (λ b. bytes_eq q name || b) (sym (has_joined (take i names) old q) ∙ h q)
    ∙ sym (has_name-with_name now name q) ∙ ap (λ l. has_name l q) (sym (is ∙ ap (with_name now) same))
  where
    turned : (a b c : Bool) → (a || (b || false)) || c ≡ b || (a || c)
    turned true true c = refl
    turned true false c = refl
    turned false true c = refl
    turned false false c = refl

pub extends_more : (old now new : List (List ℕ)) (name : List ℕ) → Extends old now → new ≡ with_name now name → Extends old new
extends_more old now new name h is = extends_on old now new h (subst (Extends now) (sym is) (extends_one now name))

pub one_added : {A E : Type 0} (r : Result A E) (old new : List (List ℕ)) (name : List ℕ) → OnOk r (new ≡ with_name old name) → OnOk r (HasSameNames (name ∷ old) new)
one_added (Ok x) old new name h = subst (HasSameNames (name ∷ old)) (sym h) (one_more old name)
one_added (Err e) old new name h = h

pub one_grown : {A E : Type 0} (r : Result A E) (old new : List (List ℕ)) (name : List ℕ) → OnOk r (new ≡ with_name old name) → OnOk r (Extends old new)
one_grown (Ok x) old new name h = subst (Extends old) (sym h) (extends_one old name)
one_grown (Err e) old new name h = h
