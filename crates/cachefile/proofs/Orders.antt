-- Saved variables in the order of their names.
use Rattle.std.proofs.Common.{◌≡◌, ℕ, ◌+◌, Bool, true, false, List, [], ◌∷◌, Option, Some, None, ◌⊎◌, inl, inr, cond, length, drop, filter, refl, sym, ap, ◌∙◌, subst, arith, Ordering, Less, Equal, Greater}
use Rattle.std.specs.Prelude.{fold, slice_get, bytes_eq}
use Rattle.std.specs.List.{IsDistinct, AllByRecursion}
use Rattle.std.specs.List.Sorted.{IsStrictlySortedBy}
use Rattle.std.specs.BTreeMap.{insert_entry}
use Rattle.std.specs.Ordering.{nat_cmp, match_ordering, ordering_reverse, is_eq}
use Rattle.std.specs.Cmp.Lexicographic.{slice_cmp, nat_list_cmp_total}
use Rattle.std.proofs.Math.Path.{fun_ext}
use Rattle.std.proofs.lemmas.List.{drop_more}
use Rattle.std.proofs.Math.ListN.{drop_of_length-le}
use Rattle.std.proofs.lemmas.Option.{slice_get_within, get_or_from_slice_get}
use Rattle.std.proofs.lemmas.Map.Keys.{IsDistinct-from_sorted}
use Rattle.std.proofs.lemmas.Map.Text.{is_eq-slice_cmp}
use Rattle.std.proofs.lemmas.Slice.Eq.{bytes_eq-Decides}
use Rattle.deftable.specs.Table.{value_of, names_of, HasDistinctNames}
use Rattle.cachefile.specs.Text.{is_saved, with_saved, in_order, saved_entries, AreInOrder}

abbrev pub Entries : Type 0
Entries = List (List ℕ × List ℕ)

abbrev some : List ℕ × List ℕ → Option (List ℕ × List ℕ)
some x = Some x

some_inj : (x y : List ℕ × List ℕ) → some x ≡ some y → x ≡ y
some_inj x y e = cc

-- ---- one variable further

pub decided : (b : Bool) → (b ≡ true) ⊎ (b ≡ false)
decided true = inl refl
decided false = inr refl

dropped : (vs : Entries) (i : ℕ) (e : List ℕ × List ℕ) → slice_get vs i ≡ Some e → drop i vs ≡ e ∷ drop (i + 1) vs
dropped vs i e at = drop_more vs i e (slice_get_within vs i e at) ∙ ap (λ x. x ∷ drop (i + 1) vs) (get_or_from_slice_get vs i e e at)

saved_before : (e : List ℕ × List ℕ) (es : Entries) → with_saved (saved_entries es) e ≡ saved_entries (e ∷ es)
saved_before e es = elim (decided (is_saved e)) [
  | inl h ↦ rw h refl
  | inr h ↦ rw h refl
]

pub saved_more : (vs now next : Entries) (i : ℕ) (e : List ℕ × List ℕ) → slice_get vs i ≡ Some e
    → now ≡ saved_entries (drop (i + 1) vs) → next ≡ with_saved now e → next ≡ saved_entries (drop i vs)
saved_more vs now next i e at h put =
    put ∙ ap (λ s. with_saved s e) h ∙ saved_before e (drop (i + 1) vs) ∙ ap (λ es. saved_entries es) (sym (dropped vs i e at))

-- ---- a fold that gives each new name its value

-- a step leaves other names as they are, and gives its own name its value if that has none
pub record Gives (step : Entries → List ℕ × List ℕ → Entries) : Type 0 where
  pub others : (vars : Entries) (e : List ℕ × List ℕ) (q : List ℕ) → bytes_eq q e.0 ≡ false → value_of (step vars e) q ≡ value_of vars q
  pub own : (vars : Entries) (e : List ℕ × List ℕ) (q : List ℕ) → bytes_eq q e.0 ≡ true → value_of vars q ≡ None → value_of (step vars e) q ≡ Some e.1

module _ (step : Entries → List ℕ × List ℕ → Entries) (gives : Gives step) where
  others_stay : (vars es : Entries) (q : List ℕ) → AllByRecursion (λ n. bytes_eq q n ≡ false) (names_of es) → value_of (fold step vars es) q ≡ value_of vars q
  others_stay vars [] q all = refl
  others_stay vars (e ∷ es) q all = others_stay (step vars e) es q all.1 ∙ gives.others vars e q all.0

  pub all_set : (vars es : Entries) (q : List ℕ) → HasDistinctNames es → value_of vars q ≡ None → value_of (fold step vars es) q ≡ value_of es q
  unfolding value_of IsDistinct
  all_set vars [] q distinct new = new
  all_set vars (e ∷ es) q distinct new = elim (decided (bytes_eq q e.0)) [
    | inl h ↦
        let same : e.0 ≡ q = sym ((bytes_eq-Decides q e.0).0 h) in
        others_stay (step vars e) es q (subst (λ n. AllByRecursion (λ m. bytes_eq n m ≡ false) (names_of es)) same distinct.0)
        ∙ gives.own vars e q h new ∙ sym (rw h refl)
    | inr h ↦ all_set (step vars e) es q distinct.1 (gives.others vars e q h ∙ new) ∙ sym (rw h refl)
  ]

-- ---- an entry put in its place

abbrev order : List ℕ → List ℕ → Ordering
order x y = slice_cmp nat_cmp x y

true_is_false : true ≡ false → ⊥
true_is_false e = absurd cc

equal_names : (k n : List ℕ) → order k n ≡ Equal → k ≡ n
equal_names k n is = (bytes_eq-Decides k n).0 (sym (is_eq-slice_cmp k n) ∙ ap is_eq is)

put_others_by : (o : Ordering) (e : List ℕ × List ℕ) (es inserted : Entries) (k v q : List ℕ) → order k e.0 ≡ o → bytes_eq q k ≡ false → value_of inserted q ≡ value_of es q
    → value_of (match_ordering o ((k, v) ∷ e ∷ es) ((e.0, v) ∷ es) (e ∷ inserted)) q ≡ value_of (e ∷ es) q
unfolding value_of
put_others_by Less e es inserted k v q is other rest = rw other refl
put_others_by Equal e es inserted k v q is other rest = rw (ap (λ n. bytes_eq q n) (sym (equal_names k e.0 is)) ∙ other) refl
put_others_by Greater e es inserted k v q is other rest = ap (λ o. cond (bytes_eq q e.0) (Some e.1) o) rest

put_others : (es : Entries) (k v q : List ℕ) → bytes_eq q k ≡ false → value_of (insert_entry order es k v) q ≡ value_of es q
unfolding value_of
put_others [] k v q other = rw other refl
put_others (e ∷ es) k v q other = put_others_by (order k e.0) e es (insert_entry order es k v) k v q refl other (put_others es k v q other)

put_own_by : (o : Ordering) (e : List ℕ × List ℕ) (es inserted : Entries) (k v q : List ℕ) → order k e.0 ≡ o → bytes_eq q k ≡ true → value_of inserted q ≡ Some v
    → value_of (match_ordering o ((k, v) ∷ e ∷ es) ((e.0, v) ∷ es) (e ∷ inserted)) q ≡ Some v
unfolding value_of
put_own_by Less e es inserted k v q is own rest = rw own refl
put_own_by Equal e es inserted k v q is own rest = rw (ap (λ n. bytes_eq q n) (sym (equal_names k e.0 is)) ∙ own) refl
put_own_by Greater e es inserted k v q is own rest = elim (decided (bytes_eq q e.0)) [
  | inl h ↦
      let same : q ≡ k = (bytes_eq-Decides q k).0 own in
      absurd (true_is_false (sym (ap (λ n. bytes_eq n e.0) (sym same) ∙ h) ∙ sym (is_eq-slice_cmp k e.0) ∙ ap is_eq is))
  | inr h ↦ rw h rest
]

put_own : (es : Entries) (k v q : List ℕ) → bytes_eq q k ≡ true → value_of (insert_entry order es k v) q ≡ Some v
unfolding value_of
put_own [] k v q own = rw own refl
put_own (e ∷ es) k v q own = put_own_by (order k e.0) e es (insert_entry order es k v) k v q refl own (put_own es k v q own)

pub none_set : (q : List ℕ) → value_of [] q ≡ None
unfolding value_of
none_set q = refl

-- the order of entries is nothing to their values
pub in_order_values : (es : Entries) (q : List ℕ) → value_of (in_order es) q ≡ value_of es q
unfolding value_of
in_order_values [] q = refl
in_order_values (e ∷ es) q = elim (decided (bytes_eq q e.0)) [
  | inl h ↦ put_own (in_order es) e.0 e.1 q h ∙ sym (rw h refl)
  | inr h ↦ put_others (in_order es) e.0 e.1 q h ∙ in_order_values es q ∙ sym (rw h refl)
]

-- names in order are distinct
pub in_order_distinct : (es : Entries) → AreInOrder es → HasDistinctNames es
in_order_distinct es sorted =
    subst (λ (eq : List ℕ → List ℕ → Bool). IsDistinct eq (names_of es)) (fun_ext (λ x. fun_ext (λ y. is_eq-slice_cmp x y)))
    (IsDistinct-from_sorted order (names_of es) sorted)

-- ---- entries that are saved

-- each is saved
abbrev pub AreSaved : Entries → Type 0
AreSaved es = AllByRecursion (λ e. is_saved e ≡ true) es

pub filter_saved : (es : Entries) → AreSaved (filter is_saved es)
filter_saved [] = tt
filter_saved (e ∷ es) = elim (decided (is_saved e)) [
  | inl h ↦ rw h (h, filter_saved es)
  | inr h ↦ rw h (filter_saved es)
]

put_saved_by : (o : Ordering) (e : List ℕ × List ℕ) (es inserted : Entries) (k v : List ℕ) → order k e.0 ≡ o → is_saved (k, v) ≡ true → is_saved e ≡ true → AreSaved es → AreSaved inserted
    → AreSaved (match_ordering o ((k, v) ∷ e ∷ es) ((e.0, v) ∷ es) (e ∷ inserted))
put_saved_by Less e es inserted k v is ok first rest all = (ok, (first, rest))
put_saved_by Equal e es inserted k v is ok first rest all =
    let same : k ≡ e.0 = (bytes_eq-Decides k e.0).0 (sym (is_eq-slice_cmp k e.0) ∙ ap is_eq is) in
    (ap (λ n. is_saved (n, v)) (sym same) ∙ ok, rest)
put_saved_by Greater e es inserted k v is ok first rest all = (first, all)

put_saved : (es : Entries) (k v : List ℕ) → is_saved (k, v) ≡ true → AreSaved es → AreSaved (insert_entry order es k v)
put_saved [] k v ok all = (ok, tt)
put_saved (e ∷ es) k v ok all = put_saved_by (order k e.0) e es (insert_entry order es k v) k v refl ok all.0 all.1 (put_saved es k v ok all.1)

all_saved : (es : Entries) → AreSaved es → AreSaved (in_order es)
all_saved [] all = tt
all_saved (e ∷ es) all = put_saved (in_order es) e.0 e.1 all.0 (all_saved es all.1)

pub all_saved_entries : (vars : Entries) → AreSaved (saved_entries vars)
all_saved_entries vars = all_saved (filter is_saved vars) (filter_saved vars)

pub saved_none : (vars : Entries) (n : ℕ) → n ≡ length vars → [] ≡ saved_entries (drop n vars)
saved_none vars n is = ap (λ es. saved_entries es) (sym (drop_of_length-le vars (omega (arith, is))))

-- ---- entries that are put in their place are in order

-- each name is after this one
abbrev AreAfter : List ℕ → Entries → Type 0
AreAfter name es = AllByRecursion (λ n. order name n ≡ Less) (names_of es)

after_too : (a b : List ℕ) (es : Entries) → order a b ≡ Less → AreAfter b es → AreAfter a es
after_too a b [] less all = tt
after_too a b (e ∷ es) less all = (nat_list_cmp_total.trans a b e.0 less all.0, after_too a b es less all.1)

put_after_by : (o : Ordering) (name : List ℕ) (e : List ℕ × List ℕ) (es inserted : Entries) (k v : List ℕ) → order name k ≡ Less → AreAfter name (e ∷ es) → AreAfter name inserted
    → AreAfter name (match_ordering o ((k, v) ∷ e ∷ es) ((e.0, v) ∷ es) (e ∷ inserted))
put_after_by Less name e es inserted k v less all more = (less, all)
put_after_by Equal name e es inserted k v less all more = all
put_after_by Greater name e es inserted k v less all more = (all.0, more)

put_after : (name : List ℕ) (es : Entries) (k v : List ℕ) → order name k ≡ Less → AreAfter name es → AreAfter name (insert_entry order es k v)
put_after name [] k v less all = (less, tt)
put_after name (e ∷ es) k v less all =
    put_after_by (order k e.0) name e es (insert_entry order es k v) k v less all (put_after name es k v less all.1)

put_in_order_by : (o : Ordering) (e : List ℕ × List ℕ) (es inserted : Entries) (k v : List ℕ) → order k e.0 ≡ o → AreInOrder (e ∷ es) → AreInOrder inserted
    → (order e.0 k ≡ Less → AreAfter e.0 inserted) → AreInOrder (match_ordering o ((k, v) ∷ e ∷ es) ((e.0, v) ∷ es) (e ∷ inserted))
unfolding IsStrictlySortedBy
put_in_order_by Less e es inserted k v is sorted rest later = ((is, after_too k e.0 es is sorted.0), sorted)
put_in_order_by Equal e es inserted k v is sorted rest later = sorted
put_in_order_by Greater e es inserted k v is sorted rest later = (later (nat_list_cmp_total.antisymm e.0 k ∙ ap ordering_reverse is), rest)

put_in_order : (es : Entries) (k v : List ℕ) → AreInOrder es → AreInOrder (insert_entry order es k v)
unfolding IsStrictlySortedBy
put_in_order [] k v sorted = (tt, tt)
put_in_order (e ∷ es) k v sorted =
    put_in_order_by (order k e.0) e es (insert_entry order es k v) k v refl sorted (put_in_order es k v sorted.1) (λ less. put_after e.0 es k v less sorted.0)

all_in_order : (es : Entries) → AreInOrder (in_order es)
unfolding IsStrictlySortedBy
all_in_order [] = tt
all_in_order (e ∷ es) = put_in_order (in_order es) e.0 e.1 (all_in_order es)

pub saved_in_order : (vars es : Entries) → es ≡ saved_entries vars → AreInOrder es
saved_in_order vars es is = subst AreInOrder (sym is) (all_in_order (filter is_saved vars))
