-- All brackets of a text are in its calls if it has as many as the arguments of its calls have together.
use Rattle.std.proofs.Common.{◌≡◌, ℕ, zero, suc, ◌+◌, ◌-◌, ◌<◌, ◌≤◌, Bool, true, false, cond, eqb, eq-eqb, ◌⊎◌, inl, inr, List, [], ◌∷◌, ◌++◌, length, get_or, take, drop, refl, sym, ap, subst, ◌∙◌, arith}
use Rattle.std.specs.Prelude.{Any, filter}
use Rattle.std.proofs.lemmas.List.{length-append, length-drop, length-take-le, get_or-drop, get_or-take, drop-drop, take-append-drop}
use Rattle.std.proofs.lemmas.List.Elements.{filter-append}
use Rattle.std.proofs.lemmas.List.Sums.{prefix_len_passes}
use Rattle.std.proofs.lemmas.Bool.{cases_lt, eqb-true}
use Rattle.std.proofs.Math.Seq.{take-add}
use Rattle.m4quote.specs.ItemValue.{Span, ItemValue, call, bare, bare_before}
use Rattle.m4quote.specs.Text.{is_blank, blank_len}
use Rattle.m4quote.specs.Spelling.{IsInside, AreArguments, last, more, argument_of, Spells, nothing, bare_text, dropped_line, bare_name, with_arguments}
use Rattle.m4quote.proofs.Insides.{front_fits}
use Rattle.m4quote.proofs.ArgumentLists.{length_is, byte_is}
use Rattle.ac_statement.specs.Texts.{is_bracket}
use Rattle.ac_statement.specs.Inside.{brackets, less_arguments, less_item, less_calls, is_unquoted}
use Rattle.ac_statement.proofs.Runs.{either}
use Rattle.ac_statement.specs.Standing.{HasByteAt, IsInCall, HasBracketsInCallsAlone}

-- ---- one of a list

here : {X : Type 0} (P : X → Type 0) (x : X) (xs : List X) → P x → Any P (x ∷ xs)
here P x xs p = (0, x, omega arith, refl, p)

there : {X : Type 0} (P : X → Type 0) (x : X) (xs : List X) → Any P xs → Any P (x ∷ xs)
there P x xs h = (suc h.0, h.1, omega (arith, h.2), h.3, h.4)

pub split : {X : Type 0} (P : X → Type 0) (x : X) (xs : List X) → Any P (x ∷ xs) → P x ⊎ Any P xs
split P x xs (zero, y, lt, e, p) = inl (subst P (sym e) p)
split P x xs (suc k, y, lt, e, p) = inr (k, y, omega arith, e, p)

pub none_of : {X : Type 0} (P : X → Type 0) → Any P [] → ⊥
none_of P h = let lt : h.0 < 0 = h.2 in omega arith

-- ---- counts

brackets-append : (a b : List ℕ) → brackets (a ++ b) ≡ brackets a + brackets b
brackets-append a b = ap length (filter-append is_bracket a b) ∙ length-append (filter is_bracket a) (filter is_bracket b)

brackets-parts : (n : ℕ) (text : List ℕ) → brackets text ≡ brackets (take n text) + brackets (drop n text)
brackets-parts n text = ap brackets (sym (take-append-drop n text)) ∙ brackets-append (take n text) (drop n text)

-- No bracket, none to count.
none_counted : (text : List ℕ) → ((k : ℕ) → k < length text → is_bracket (get_or text k 0) ≡ true → ⊥) → brackets text ≡ 0
none_counted [] h = refl
none_counted (b ∷ bs) h =
    elim (either (is_bracket b)) [
      | inl is ↦ absurd (h 0 (omega arith) is)
      | inr other ↦ rw other (none_counted bs (λ k lt is. h (suc k) (omega (arith, lt)) is))
    ]

none_there : (text : List ℕ) → brackets text ≡ 0 → (k : ℕ) → k < length text → is_bracket (get_or text k 0) ≡ true → ⊥
none_there [] z k lt is = omega (arith, lt)
none_there (b ∷ bs) z k lt is =
    elim (either (is_bracket b)) [
      | inl bracket ↦ (let some : suc (brackets bs) ≡ 0 = rw bracket at z in omega (arith, some))
      | inr other ↦ later k lt is other (λ j. none_there bs (rw other at z) j)
    ]
  where
    later : (k : ℕ) → k < suc (length bs) → is_bracket (get_or (b ∷ bs) k 0) ≡ true → is_bracket b ≡ false → ((j : ℕ) → j < length bs → is_bracket (get_or bs j 0) ≡ true → ⊥) → ⊥
    later zero lt is other rest = let e : true ≡ false = sym is ∙ other in cc
    later (suc k) lt is other rest = rest k (omega (arith, lt)) is

-- How many brackets arguments have.
abbrev pub in_arguments : List Span → ℕ
in_arguments [] = 0
in_arguments (a ∷ args) = brackets a.text + in_arguments args

abbrev in_item : ItemValue → ℕ
in_item (call name args at) = in_arguments args
in_item (bare text at) = 0

abbrev in_calls : List ItemValue → ℕ
in_calls [] = 0
in_calls (item ∷ items) = in_item item + in_calls items

less_arguments-is : (n : ℕ) (args : List Span) → less_arguments n args ≡ n - in_arguments args
less_arguments-is n [] = omega arith
less_arguments-is n (a ∷ args) = less_arguments-is (n - brackets a.text) args ∙ omega arith

less_item-is : (n : ℕ) (item : ItemValue) → less_item n item ≡ n - in_item item
less_item-is n (call name args at) = less_arguments-is n args
less_item-is n (bare text at) = omega arith

less_calls-is : (n : ℕ) (items : List ItemValue) → less_calls n items ≡ n - in_calls items
less_calls-is n [] = omega arith
less_calls-is n (item ∷ items) = less_calls-is (less_item n item) items ∙ ap (λ m. m - in_calls items) (less_item-is n item) ∙ omega arith

-- ---- arguments

-- The first m bytes have as many brackets as the arguments, each of them is in an argument, and the arguments are in
-- these bytes.
record Covers (at : ℕ) (text : List ℕ) (args : List Span) (m : ℕ) : Type 0 where
  pub fits : m ≤ length text
  pub count : brackets (take m text) ≡ in_arguments args
  pub found : (k : ℕ) → k < m → is_bracket (get_or text k 0) ≡ true → Any (HasByteAt (at + k)) args
  pub within : (p : ℕ) → Any (HasByteAt p) args → (at ≤ p) × (p < at + m)

blank_no_bracket : (b : ℕ) → is_blank b ≡ true → is_bracket b ≡ true → ⊥
blank_no_bracket b blank bracket =
    elim (either (eqb b 91)) [
      | inl opens ↦ (let e : false ≡ true = sym (ap is_blank (eqb-true b 91 opens)) ∙ blank in cc)
      | inr other ↦ (let closes : eqb b 93 ≡ true = rw other at bracket in let e : false ≡ true = sym (ap is_blank (eqb-true b 93 closes)) ∙ blank in cc)
    ]

-- An argument after its blanks, and the byte that ends it.
module _ (at n c : ℕ) (text after : List ℕ) (inside : IsInside 63 false (drop (blank_len text) text) n) (ends : drop (blank_len text + n) text ≡ c ∷ after) (plain : is_bracket c ≡ false) where
  one_fits : length text ≡ blank_len text + n + suc (length after)
  one_fits = length_is 0 at n c text after inside ends

  arg_length : length (take n (drop (blank_len text) text)) ≡ n
  arg_length = length-take-le n (drop (blank_len text) text) (omega (arith, length-drop (blank_len text) text, one_fits))

  one_count : brackets (take (blank_len text + n + 1) text) ≡ brackets (take n (drop (blank_len text) text))
  one_count =
      let blanks : brackets (take (blank_len text) text) ≡ 0 = none_counted (take (blank_len text) text) (λ k lt is. in_blanks k lt is) in
      let stop : take 1 (drop (blank_len text + n) text) ≡ c ∷ [] = ap (take 1) ends in
      let byte : brackets (c ∷ []) ≡ 0 = rw plain refl in
      ap brackets (take-add (blank_len text + n) 1 text) ∙ brackets-append (take (blank_len text + n) text) (take 1 (drop (blank_len text + n) text))
      ∙ rw (stop, byte) (omega (arith, ap brackets (take-add (blank_len text) n text) ∙ brackets-append (take (blank_len text) text) (take n (drop (blank_len text) text)), blanks))
    where
      in_blanks : (k : ℕ) → k < length (take (blank_len text) text) → is_bracket (get_or (take (blank_len text) text) k 0) ≡ true → ⊥
      in_blanks k lt is =
          let len = length-take-le (blank_len text) text (omega (arith, one_fits)) in
          let low : k < blank_len text = omega (arith, lt, len) in
          let same : get_or (take (blank_len text) text) k 0 ≡ get_or text k 0 = get_or-take (blank_len text) text k 0 low in
          blank_no_bracket (get_or text k 0) (prefix_len_passes is_blank text k 0 low) (ap is_bracket (sym same) ∙ is)

  -- A bracket before the end of the argument is in it.
  one_found : (k : ℕ) → k < blank_len text + n + 1 → is_bracket (get_or text k 0) ≡ true → HasByteAt (at + k) (argument_of at text n)
  one_found k lt is =
      let past : k < blank_len text → ⊥ = λ low. blank_no_bracket (get_or text k 0) (prefix_len_passes is_blank text k 0 low) is in
      let apart : k ≡ blank_len text + n → ⊥ = λ e. (let h : true ≡ false = sym is ∙ ap (λ m. is_bracket (get_or text m 0)) e ∙ ap is_bracket (byte_is 0 at n c text after inside ends) ∙ plain in cc) in
      (omega (arith, past), omega (arith, past, apart, lt, arg_length))

arguments-cover : {at m : ℕ} {text : List ℕ} {args : List Span} → AreArguments at text args m → Covers at text args m
arguments-cover (last {at} {n} {text} {after} inside ends) =
    let len = one_fits at n 41 text after inside ends refl in
    let arg_len = arg_length at n 41 text after inside ends refl in
    record {
      fits = omega (arith, len);
      count = one_count at n 41 text after inside ends refl ∙ omega arith;
      found = λ k lt is. here (HasByteAt (at + k)) (argument_of at text n) [] (one_found at n 41 text after inside ends refl k lt is);
      within = λ p h. elim (split (HasByteAt p) (argument_of at text n) [] h) [
        | inl first ↦ (omega (arith, first), omega (arith, first, arg_len))
        | inr later ↦ absurd (none_of (HasByteAt p) later)
      ];
    }
arguments-cover (more {at} {n} {m} {text} {after} {args} inside ends later) =
    let len = one_fits at n 44 text after inside ends refl in
    let arg_len = arg_length at n 44 text after inside ends refl in
    let rest = arguments-cover later in
    let following : drop (blank_len text + n + 1) text ≡ after = sym (drop-drop 1 (blank_len text + n) text) ∙ ap (drop 1) ends in
    record {
      fits = omega (arith, len, rest.fits);
      count =
          ap brackets (take-add (blank_len text + n + 1) m text) ∙ brackets-append (take (blank_len text + n + 1) text) (take m (drop (blank_len text + n + 1) text))
          ∙ rw (one_count at n 44 text after inside ends refl, following, rest.count) refl;
      found = λ k lt is. found_in k lt is rest.found following (one_found at n 44 text after inside ends refl k);
      within = λ p h. elim (split (HasByteAt p) (argument_of at text n) args h) [
        | inl first ↦ (omega (arith, first), omega (arith, first, arg_len))
        | inr next ↦ (let w = rest.within p next in (omega (arith, w), omega (arith, w)))
      ];
    }
  where
    found_in : (k : ℕ) → k < blank_len text + n + 1 + m → is_bracket (get_or text k 0) ≡ true
        → ((j : ℕ) → j < m → is_bracket (get_or after j 0) ≡ true → Any (HasByteAt (at + (blank_len text + n + 1) + j)) args)
        → drop (blank_len text + n + 1) text ≡ after
        → (k < blank_len text + n + 1 → is_bracket (get_or text k 0) ≡ true → HasByteAt (at + k) (argument_of at text n))
        → Any (HasByteAt (at + k)) (argument_of at text n ∷ args)
    found_in k lt is rest following first =
        elim (cases_lt k (blank_len text + n + 1)) [
          | inl low ↦ here (HasByteAt (at + k)) (argument_of at text n) args (first low is)
          | inr high ↦
              let j : ℕ = k - (blank_len text + n + 1) in
              let byte : get_or after j 0 ≡ get_or text k 0 =
              ap (λ (t : List ℕ). get_or t j 0) (sym following) ∙ get_or-drop (blank_len text + n + 1) text j 0 ∙ ap (λ m. get_or text m 0) (let e : blank_len text + n + 1 + j ≡ k = omega arith in e) in
              there (HasByteAt (at + k)) (argument_of at text n) args
              (subst (λ p. Any (HasByteAt p) args) (let e : at + (blank_len text + n + 1) + j ≡ at + k = omega arith in e) (rest j (omega arith) (ap is_bracket byte ∙ is)))
        ]

-- ---- items

-- The counts of a text and of the items that it spells.
record Counts (at : ℕ) (text : List ℕ) (items : List ItemValue) : Type 0 where
  low : (p : ℕ) → Any (IsInCall p) items → at ≤ p
  less : in_calls items ≤ brackets text
  to : brackets text ≤ in_calls items → HasBracketsInCallsAlone at text items
  from : HasBracketsInCallsAlone at text items → brackets text ≤ in_calls items

-- After n bytes, the rest of a text has its brackets in calls.
after_alone : (at n : ℕ) (text : List ℕ) (items : List ItemValue) → n ≤ length text → HasBracketsInCallsAlone at text items → HasBracketsInCallsAlone (at + n) (drop n text) items
after_alone at n text items fits alone = λ k lt is.
    (let there : Any (IsInCall (at + (n + k))) items = alone (n + k) (omega (arith, lt, length-drop n text)) (ap is_bracket (sym (get_or-drop n text k 0)) ∙ is) in
    subst (λ p. Any (IsInCall p) items) (let e : at + (n + k) ≡ at + n + k = omega arith in e) there)

-- The same from the rest on.
before_alone : (at n k : ℕ) (text : List ℕ) (items : List ItemValue) → n ≤ k → k < length text → is_bracket (get_or text k 0) ≡ true → HasBracketsInCallsAlone (at + n) (drop n text) items → Any (IsInCall (at + k)) items
before_alone at n k text items high lt is alone =
    let byte : get_or (drop n text) (k - n) 0 ≡ get_or text k 0 = get_or-drop n text (k - n) 0 ∙ ap (λ m. get_or text m 0) (let e : n + (k - n) ≡ k = omega arith in e) in
    subst (λ p. Any (IsInCall p) items) (let e : at + n + (k - n) ≡ at + k = omega arith in e) (alone (k - n) (omega (arith, length-drop n text)) (ap is_bracket byte ∙ is))

-- N bytes more before it, which are in no call.
longer : (at n : ℕ) (text : List ℕ) (items : List ItemValue) → n ≤ length text → Counts (at + n) (drop n text) items → Counts at text items
longer at n text items fits rest =
    let parts = brackets-parts n text in
    let len : length (take n text) ≡ n = length-take-le n text fits in
    record {
      low = λ p h. omega (arith, rest.low p h);
      less = omega (arith, rest.less, parts);
      to = λ le k lt is. elim (cases_lt k n) [
        | inl early ↦ absurd (none_there (take n text) (omega (arith, rest.less, parts, le)) k (omega (arith, early, len)) (ap is_bracket (get_or-take n text k 0 early) ∙ is))
        | inr late ↦ before_alone at n k text items late lt is (rest.to (omega (arith, parts, le)))
      ];
      from = λ alone.
          (let none : brackets (take n text) ≡ 0 = none_counted (take n text) (λ k lt is.
          (let early : k < n = omega (arith, lt, len) in
          let h = rest.low (at + k) (alone k (omega (arith, early)) (ap is_bracket (sym (get_or-take n text k 0 early)) ∙ is)) in
          omega (arith, h, early))) in
          omega (arith, parts, none, rest.from (after_alone at n text items fits alone)));
    }

-- A call before them, whose arguments are in the first m bytes.
with_call : (at m : ℕ) (text name : List ℕ) (args : List Span) (place : ℕ) (items : List ItemValue) → Covers at text args m → Counts (at + m) (drop m text) items → Counts at text (call name args place ∷ items)
with_call at m text name args place items first rest =
    let parts = brackets-parts m text in
    let item : ItemValue = call name args place in
    record {
      low = λ p h. elim (split (IsInCall p) item items h) [
        | inl in_this ↦ (first.within p in_this).0
        | inr in_later ↦ omega (arith, rest.low p in_later)
      ];
      less = omega (arith, rest.less, parts, first.count);
      to = λ le k lt is. elim (cases_lt k m) [
        | inl early ↦ here (IsInCall (at + k)) item items (first.found k early is)
        | inr late ↦ there (IsInCall (at + k)) item items (before_alone at m k text items late lt is (rest.to (omega (arith, parts, first.count, le))))
      ];
      from = λ alone.
          (let later : HasBracketsInCallsAlone (at + m) (drop m text) items = λ k lt is.
          (elim (split (IsInCall (at + m + k)) item items (after_alone at m text (item ∷ items) first.fits alone k lt is)) [
            | inl in_this ↦ absurd (omega (arith, (first.within (at + m + k) in_this).1))
            | inr in_later ↦ in_later
          ]) in
          omega (arith, parts, first.count, rest.from later));
    }

-- Lists that have the same calls.
record Same (a b : List ItemValue) : Type 0 where
  count : in_calls a ≡ in_calls b
  to : (p : ℕ) → Any (IsInCall p) a → Any (IsInCall p) b
  from : (p : ℕ) → Any (IsInCall p) b → Any (IsInCall p) a

same-Counts : (at : ℕ) (text : List ℕ) (a b : List ItemValue) → Same a b → Counts at text a → Counts at text b
same-Counts at text a b same h = record {
  low = λ p k. h.low p (same.from p k);
  less = omega (arith, same.count, h.less);
  to = λ le k lt is. same.to (at + k) (h.to (omega (arith, same.count, le)) k lt is);
  from = λ alone. omega (arith, same.count, h.from (λ k lt is. same.from (at + k) (alone k lt is)));
}

same : (items : List ItemValue) → Same items items
same items = record { count = refl; to = λ p h. h; from = λ p h. h }

-- An item without arguments.
more_plain : (item : ItemValue) (items : List ItemValue) → in_item item ≡ 0 → ((p : ℕ) → IsInCall p item → ⊥) → Same items (item ∷ items)
more_plain item items none apart = record {
  count = omega (arith, none);
  to = λ p h. there (IsInCall p) item items h;
  from = λ p h. elim (split (IsInCall p) item items h) [ inl in_this ↦ absurd (apart p in_this) | inr later ↦ later ];
}

other_plain : (a b : ItemValue) (items : List ItemValue) → in_item a ≡ 0 → in_item b ≡ 0 → ((p : ℕ) → IsInCall p a → ⊥) → ((p : ℕ) → IsInCall p b → ⊥) → Same (a ∷ items) (b ∷ items)
other_plain a b items none none' apart apart' = record {
  count = omega (arith, none, none');
  to = λ p h. elim (split (IsInCall p) a items h) [ inl in_this ↦ absurd (apart p in_this) | inr later ↦ there (IsInCall p) b items later ];
  from = λ p h. elim (split (IsInCall p) b items h) [ inl in_this ↦ absurd (apart' p in_this) | inr later ↦ there (IsInCall p) a items later ];
}

joined_or_not : (t : Bool) (at to : ℕ) (a b : List ℕ) (items : List ItemValue) → Same (bare b to ∷ items) (cond t (bare (a ++ b) at ∷ items) (bare a at ∷ bare b to ∷ items))
joined_or_not true at to a b items = other_plain (bare b to) (bare (a ++ b) at) items refl refl (λ p h. h) (λ p h. h)
joined_or_not false at to a b items = more_plain (bare a at) (bare b to ∷ items) refl (λ p h. h)

bare_before-same : (at : ℕ) (text : List ℕ) (items : List ItemValue) → Same items (bare_before at text items)
bare_before-same at [] items = same items
bare_before-same at (b ∷ bs) [] = more_plain (bare (b ∷ bs) at) [] refl (λ p h. h)
bare_before-same at (b ∷ bs) (call name args to ∷ items) = more_plain (bare (b ∷ bs) at) (call name args to ∷ items) refl (λ p h. h)
bare_before-same at (b ∷ bs) (bare text to ∷ items) = joined_or_not (eqb to (at + length (b ∷ bs))) at to (b ∷ bs) text items

Spells-Counts : {at : ℕ} {text : List ℕ} {items : List ItemValue} → Spells at text items → Counts at text items
Spells-Counts nothing = record {
  low = λ p h. absurd (none_of (IsInCall p) h);
  less = omega arith;
  to = λ le k lt is. absurd (omega (arith, lt));
  from = λ alone. omega arith;
}
Spells-Counts (bare_text {at} {n} {kind} {text} {items} front is later) =
    same-Counts at text items (bare_before at (take n text) items) (bare_before-same at (take n text) items) (longer at n text items (front_fits front).1 (Spells-Counts later))
Spells-Counts (dropped_line {at} {n} {text} {items} front later) = longer at n text items (front_fits front).1 (Spells-Counts later)
Spells-Counts (bare_name {at} {n} {text} {items} front no_args later) =
    same-Counts at text items (call (take n text) [] at ∷ items) (more_plain (call (take n text) [] at) items refl (λ p h. none_of (HasByteAt p) h)) (longer at n text items (front_fits front).1 (Spells-Counts later))
Spells-Counts (with_arguments {at} {n} {m} {text} {inside} {args} {items} front opens given later) =
    let items' : List ItemValue = call (take n text) args at ∷ items in
    let called : Counts (at + n + 1) inside items' = with_call (at + n + 1) m inside (take n text) args at items (arguments-cover given) (Spells-Counts later) in
    let opened : Counts (at + n) (40 ∷ inside) items' = longer (at + n) 1 (40 ∷ inside) items' (omega arith) called in
    longer at n text items' (front_fits front).1 (subst (λ (t : List ℕ). Counts (at + n) t items') (sym opens) opened)

-- ---- the two tests

module _ (at : ℕ) (text : List ℕ) (items : List ItemValue) (spelled : Spells at text items) where
  pub unquoted-alone : is_unquoted text items ≡ true → HasBracketsInCallsAlone at text items
  unquoted-alone h =
      let counted = Spells-Counts spelled in
      counted.to (omega (arith, less_calls-is (brackets text) items, eqb-true (less_calls (brackets text) items) 0 h))

  pub alone-unquoted : HasBracketsInCallsAlone at text items → is_unquoted text items ≡ true
  alone-unquoted h =
      let counted = Spells-Counts spelled in
      eq-eqb (less_calls (brackets text) items) 0 (omega (arith, less_calls-is (brackets text) items, counted.from h))
