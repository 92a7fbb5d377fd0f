-- What is known of names after entries are added.
use Rattle.std.proofs.Common.{◌≡◌, ℕ, ◌+◌, ◌==◌, Bool, true, false, List, [], ◌∷◌, ◌++◌, ◌⊎◌, inl, inr, Option, Some, None, cond, length, map, refl, arith, sym, ap, ◌∙◌, subst, Ordering, Less, Equal, Greater}
use Rattle.std.specs.Prelude.{fold, bytes_eq, is_some, ◌||◌, ◌&&◌}
use Rattle.std.specs.BTreeMap.{insert_entry}
use Rattle.std.specs.Ordering.{nat_cmp, match_ordering, is_eq}
use Rattle.std.specs.Cmp.Lexicographic.{slice_cmp}
use Rattle.std.proofs.lemmas.Bool.Decides.{eqb_tells}
use Rattle.std.proofs.lemmas.Map.Text.{is_eq-slice_cmp}
use Rattle.std.proofs.lemmas.Slice.Eq.{bytes_eq-Decides}
use Rattle.deftable.specs.NameList.{has_name}
use Rattle.deftable.specs.Table.{value_of, names_of}
use Rattle.deftable.proofs.Names.{has_name-names_of}
use Rattle.header_template.proofs.Held.{Owned, seen}
use Rattle.header_template.specs.Table.{joined, after, known_of, is_none, with_placed, with_entry, with_all, AreInOrder, IsTable}

abbrev pub Entries : Type 0
Entries = List (List ℕ × List ℕ)

decided : (b : Bool) → (b ≡ true) ⊎ (b ≡ false)
decided true = inl refl
decided false = inr refl

-- ---- an entry put in its place

abbrev order : List ℕ → List ℕ → Ordering
order x y = slice_cmp nat_cmp x y

pub none_is : (d : List ℕ) → (length d == 0) ≡ is_none d
none_is [] = refl
none_is (b ∷ bs) = elim (eqb_tells (length (b ∷ bs)) 0) [
  | inl h ↦ let z = h.1 in absurd (omega (arith, z))
  | inr h ↦ h.0
]

true_is_false : true ≡ false → ⊥
true_is_false e = absurd cc

equal_names : (k n : List ℕ) → order k n ≡ Equal → k ≡ n
equal_names k n is = (bytes_eq-Decides k n).0 (sym (is_eq-slice_cmp k n) ∙ ap is_eq is)

put_others_by : (o : Ordering) (e : List ℕ × List ℕ) (es inserted : Entries) (k v q : List ℕ) → order k e.0 ≡ o → bytes_eq q k ≡ false → value_of inserted q ≡ value_of es q
    → value_of (match_ordering o ((k, v) ∷ e ∷ es) ((e.0, v) ∷ es) (e ∷ inserted)) q ≡ value_of (e ∷ es) q
unfolding value_of
put_others_by Less e es inserted k v q is other rest = rw other refl
put_others_by Equal e es inserted k v q is other rest = rw (ap (λ n. bytes_eq q n) (sym (equal_names k e.0 is)) ∙ other) refl
put_others_by Greater e es inserted k v q is other rest = ap (λ o. cond (bytes_eq q e.0) (Some e.1) o) rest

put_others : (es : Entries) (k v q : List ℕ) → bytes_eq q k ≡ false → value_of (insert_entry order es k v) q ≡ value_of es q
unfolding value_of
put_others [] k v q other = rw other refl
put_others (e ∷ es) k v q other = put_others_by (order k e.0) e es (insert_entry order es k v) k v q refl other (put_others es k v q other)

put_own_by : (o : Ordering) (e : List ℕ × List ℕ) (es inserted : Entries) (k v q : List ℕ) → order k e.0 ≡ o → bytes_eq q k ≡ true → value_of inserted q ≡ Some v
    → value_of (match_ordering o ((k, v) ∷ e ∷ es) ((e.0, v) ∷ es) (e ∷ inserted)) q ≡ Some v
unfolding value_of
put_own_by Less e es inserted k v q is own rest = rw own refl
put_own_by Equal e es inserted k v q is own rest = rw (ap (λ n. bytes_eq q n) (sym (equal_names k e.0 is)) ∙ own) refl
put_own_by Greater e es inserted k v q is own rest = elim (decided (bytes_eq q e.0)) [
  | inl h ↦
      let same : q ≡ k = (bytes_eq-Decides q k).0 own in
      absurd (true_is_false (sym (ap (λ n. bytes_eq n e.0) (sym same) ∙ h) ∙ sym (is_eq-slice_cmp k e.0) ∙ ap is_eq is))
  | inr h ↦ rw h rest
]

put_own : (es : Entries) (k v q : List ℕ) → bytes_eq q k ≡ true → value_of (insert_entry order es k v) q ≡ Some v
unfolding value_of
put_own [] k v q own = rw own refl
put_own (e ∷ es) k v q own = put_own_by (order k e.0) e es (insert_entry order es k v) k v q refl own (put_own es k v q own)

-- ---- one more entry

-- A description that is empty leaves what is known.
stays : (known : Option (List ℕ)) (d : List ℕ) → is_none d ≡ true → is_some known ≡ true → known ≡ joined known d
stays None d empty some = absurd cc
stays (Some x) [] empty some = refl
stays (Some x) (b ∷ bs) empty some = absurd cc

-- Any other one takes its place.
replaces : (known : Option (List ℕ)) (d : List ℕ) → (is_none d && is_some known) ≡ false → Some d ≡ joined known d
replaces None d other = refl
replaces (Some x) [] other = absurd (true_is_false other)
replaces (Some x) (b ∷ bs) other = refl

and_first : (a b : Bool) → (a && b) ≡ true → a ≡ true
and_first true b is = refl
and_first false b is = absurd cc

and_second : (a b : Bool) → (a && b) ≡ true → b ≡ true
and_second true b is = is
and_second false b is = absurd cc

kept_known : (table : Entries) (e : List ℕ × List ℕ) (q : List ℕ) (own : Bool) → bytes_eq q e.0 ≡ own → (is_none e.1 && is_some (value_of table e.0)) ≡ true
    → value_of table q ≡ cond own (joined (value_of table q) e.1) (value_of table q)
kept_known table e q false is kept = refl
kept_known table e q true is kept =
    let same : e.0 ≡ q = sym ((bytes_eq-Decides q e.0).0 is) in
    stays (value_of table q) e.1 (and_first _ _ kept) (ap (λ n. is_some (value_of table n)) (sym same) ∙ and_second _ _ kept)

put_known : (table : Entries) (e : List ℕ × List ℕ) (q : List ℕ) (own : Bool) → bytes_eq q e.0 ≡ own → (is_none e.1 && is_some (value_of table e.0)) ≡ false
    → value_of (with_placed table e) q ≡ cond own (joined (value_of table q) e.1) (value_of table q)
put_known table e q false is put = put_others table e.0 e.1 q is
put_known table e q true is put =
    let same : e.0 ≡ q = sym ((bytes_eq-Decides q e.0).0 is) in
    put_own table e.0 e.1 q is ∙ replaces (value_of table q) e.1 (ap (λ n. is_none e.1 && is_some (value_of table n)) (sym same) ∙ put)

known_by : (table : Entries) (e : List ℕ × List ℕ) (q : List ℕ) (b : Bool) → (is_none e.1 && is_some (value_of table e.0)) ≡ b
    → value_of (cond b table (with_placed table e)) q ≡ after q (value_of table q) e
known_by table e q true is = kept_known table e q (bytes_eq q e.0) refl is
known_by table e q false is = put_known table e q (bytes_eq q e.0) refl is

pub one_known : (table : Entries) (e : List ℕ × List ℕ) (q : List ℕ) → value_of (with_entry table e) q ≡ after q (value_of table q) e
one_known table e q = known_by table e q (is_none e.1 && is_some (value_of table e.0)) refl

all_known : (table entries : Entries) (q : List ℕ) → value_of (with_all table entries) q ≡ fold (after q) (value_of table q) entries
all_known table [] q = refl
all_known table (e ∷ es) q = all_known (with_entry table e) es q ∙ ap (λ o. fold (after q) o es) (one_known table e q)

-- ---- the names

some_joined : (known : Option (List ℕ)) (d : List ℕ) → is_some (joined known d) ≡ true
some_joined None d = refl
some_joined (Some x) [] = refl
some_joined (Some x) (b ∷ bs) = refl

or_true : (b : Bool) → (b || true) ≡ true
or_true true = refl
or_true false = refl

or_again : (a b c : Bool) → ((a || b) || c) ≡ (a || (b || c))
or_again true b c = refl
or_again false b c = refl

or_none : (b : Bool) → (b || false) ≡ b
or_none true = refl
or_none false = refl

one_named : (known : Option (List ℕ)) (d : List ℕ) (own : Bool) → is_some (cond own (joined known d) known) ≡ (is_some known || own)
one_named known d true = some_joined known d ∙ sym (or_true (is_some known))
one_named known d false = sym (or_none (is_some known))

all_named : (known : Option (List ℕ)) (entries : Entries) (q : List ℕ) → is_some (fold (after q) known entries) ≡ (is_some known || has_name (names_of entries) q)
unfolding has_name
all_named known [] q = sym (or_none (is_some known))
all_named known (e ∷ es) q =
    all_named (after q known e) es q ∙ ap (λ b. b || has_name (names_of es) q) (one_named known e.1 (bytes_eq q e.0))
    ∙ or_again (is_some known) (bytes_eq q e.0) (has_name (names_of es) q)

none_known : (q : List ℕ) → value_of [] q ≡ None
unfolding value_of
none_known q = refl

descriptions : (entries : Entries) (q : List ℕ) → value_of (with_all [] entries) q ≡ known_of entries q
descriptions entries q = all_known [] entries q ∙ ap (λ o. fold (after q) o entries) (none_known q)

names : (entries : Entries) (q : List ℕ) → has_name (names_of (with_all [] entries)) q ≡ has_name (names_of entries) q
names entries q = has_name-names_of (with_all [] entries) q ∙ ap is_some (descriptions entries q) ∙ all_named None entries q

pub made : (entries : Entries) (empty : List Owned) (table : Entries) → empty ≡ [] → table ≡ with_all (map seen empty) entries → AreInOrder table → IsTable entries table
made entries empty table none is sorted =
    let all : table ≡ with_all [] entries = is ∙ ap (λ t. with_all (map seen t) entries) none in
    record {
      in_order = sorted;
      names = λ q. ap (λ t. has_name (names_of t) q) all ∙ names entries q;
      descriptions = λ q. ap (λ t. value_of t q) all ∙ descriptions entries q;
    }
