-- What is held: the front of a key after an `@`.
use Rattle.std.proofs.Common.{◌≡◌, ℕ, zero, suc, ◌+◌, ◌-◌, ◌<◌, ◌≤◌, Bool, true, false, cond, ◌&&◌, ◌||◌, List, [], ◌∷◌, ◌++◌, ◌⊎◌, inl, inr, length, take, drop, drop-cons, Some, None, add-one, arith, append_assoc, append-nil, length-append, length-drop, refl, sym, ◌∙◌, ap, subst, eqb-true}
use borrow.Author.Tests.{ltb-true, ltb-false}
use Rattle.std.specs.Prelude.{◌==◌, nat_eq, ltb, bytes_eq, slice_range, slice_get, Result, Ok, Err, IfOk}
use Rattle.std.specs.List.{starts_with}
use Rattle.std.proofs.lemmas.Bool.Decides.{Decides-eqb}
use Rattle.std.proofs.lemmas.List.{take_all, take-append-drop}
use Rattle.std.proofs.lemmas.Slice.Eq.{bytes_eq-Decides, starts_is}
use Rattle.std.proofs.lemmas.Option.{slice_get_within, get_or_from_slice_get}
use Rattle.std.proofs.Math.Seq.{take-append-add, drop-length}
use Rattle.std.proofs.lemmas.Bool.{and_parts}
use Rattle.deftable.specs.Table.{value_of, HasShellNames}
use Rattle.template.specs.Fill.{at_sign, filled}
use Rattle.template.specs.Hops.{HasNoAt, HasComeTo, read_to}
use Rattle.template.specs.Keys.{longest_of}
use Rattle.template.specs.Pieces.{MayBeHeld, Feeds, IsParted, begins_key, may_be_held}
use Rattle.template.proofs.Keys.{AreUpTo-longest, value_of-too_long}
use Rattle.template.proofs.Laws.{filled-[], filled-plain, filled-open, filled-end, filled-no_front, value_of-IsShellName, IsShellName-HasNoAt}
use Rattle.template.proofs.Steps.{cut, comes_whole, comes_to_end}

starts : (name text : List ℕ) → (starts_with nat_eq name text ≡ true → name ≡ text ++ drop (length text) name) × ((rest : List ℕ) → name ≡ text ++ rest → starts_with nat_eq name text ≡ true)
starts name text = starts_is Decides-eqb name text (starts_with nat_eq name text) refl

-- ---- fronts of keys

-- no key begins with it
pub begins_key-false : (es : List (List ℕ × List ℕ)) (x rest : List ℕ) → begins_key es x ≡ false → value_of es (x ++ rest) ≡ None
unfolding value_of
begins_key-false [] x rest no_key = refl
begins_key-false (e ∷ es) x rest no_key =
    elim (bytes_eq (x ++ rest) e.0) as (λ b. bytes_eq (x ++ rest) e.0 ≡ b → cond b (Some e.1) (value_of es (x ++ rest)) ≡ None) [
      | true ↦ λ is.
          let begins = (starts e.0 x).1 rest (sym ((bytes_eq-Decides (x ++ rest) e.0).0 is)) in
          absurd (first_not _ _ no_key begins)
      | false ↦ λ _. begins_key-false es x rest (second_not _ _ no_key)
    ] refl
  where
    first_not : (a b : Bool) → a || b ≡ false → a ≡ true → ⊥
    first_not true b h e = absurd cc
    first_not false b h e = absurd cc

    second_not : (a b : Bool) → a || b ≡ false → b ≡ false
    second_not true b h = absurd cc
    second_not false b h = h

-- a key begins with it
pub record Begins (es : List (List ℕ × List ℕ)) (x : List ℕ) : Type 0 where
  pub rest : List ℕ
  pub value : List ℕ
  pub is_key : value_of es (x ++ rest) ≡ Some value

here : (e : List ℕ × List ℕ) (es : List (List ℕ × List ℕ)) (x : List ℕ) → e.0 ≡ x ++ drop (length x) e.0 → Begins (e ∷ es) x
unfolding value_of
here e es x is = record {
  rest = drop (length x) e.0;
  value = e.1;
  is_key = ap (λ b. cond b (Some e.1) (value_of es (x ++ drop (length x) e.0))) ((bytes_eq-Decides (x ++ drop (length x) e.0) e.0).1 (sym is));
}

there : (e : List ℕ × List ℕ) (es : List (List ℕ × List ℕ)) (x : List ℕ) → Begins es x → Begins (e ∷ es) x
unfolding value_of
there e es x b =
    elim (bytes_eq (x ++ b.rest) e.0) as (λ t. bytes_eq (x ++ b.rest) e.0 ≡ t → Begins (e ∷ es) x) [
      | true ↦ λ is. record { rest = b.rest; value = e.1; is_key = ap (λ t. cond t (Some e.1) (value_of es (x ++ b.rest))) is }
      | false ↦ λ is. record { rest = b.rest; value = b.value; is_key = ap (λ t. cond t (Some e.1) (value_of es (x ++ b.rest))) is ∙ b.is_key }
    ] refl

pub begins_key-true : (es : List (List ℕ × List ℕ)) (x : List ℕ) → begins_key es x ≡ true → Begins es x
begins_key-true [] x h = absurd cc
begins_key-true (e ∷ es) x h =
    elim (starts_with nat_eq e.0 x) as (λ b. starts_with nat_eq e.0 x ≡ b → b || begins_key es x ≡ true → Begins (e ∷ es) x) [
      | true ↦ λ is _. here e es x ((starts e.0 x).0 is)
      | false ↦ λ _ later. there e es x (begins_key-true es x later)
    ] refl h

-- one entry after another
pub begins_key-at : (es : List (List ℕ × List ℕ)) (i : ℕ) (x name value : List ℕ) → slice_get es i ≡ Some (name, value) → begins_key (drop i es) x ≡ (starts_with nat_eq name x || begins_key (drop (i + 1) es) x)
begins_key-at es i x name value is =
    let entry : List ℕ × List ℕ = (name, value) in
    ap (λ t. begins_key t x) (drop-cons es i entry (slice_get_within es i entry is) ∙ ap (λ e. e ∷ drop (suc i) es) (get_or_from_slice_get es i entry entry is) ∙ ap (λ n. entry ∷ drop n es) (sym (add-one i)))

-- a loop over the entries that finds a key, and one that goes on
pub begins_here : (es later : List (List ℕ × List ℕ)) (i : ℕ) (x name value : List ℕ) (r : Bool) → es ≡ later → slice_get es i ≡ Some (name, value) → r ≡ starts_with nat_eq name x → r ≡ true
    → begins_key (drop i later) x ≡ begins_key later x → true ≡ begins_key later x
begins_here es later i x name value r e is f yes_it_is h =
    let entry : slice_get later i ≡ Some (name, value) = subst (λ t. slice_get t i ≡ Some (name, value)) e is in
    ap (λ b. b || begins_key (drop (i + 1) later) x) (sym yes_it_is ∙ f) ∙ sym (begins_key-at later i x name value entry) ∙ h

pub begins_later : (es later : List (List ℕ × List ℕ)) (i : ℕ) (x name value : List ℕ) (r : Bool) → es ≡ later → slice_get es i ≡ Some (name, value) → r ≡ starts_with nat_eq name x → r ≡ false
    → begins_key (drop i later) x ≡ begins_key later x → begins_key (drop (i + 1) later) x ≡ begins_key later x
begins_later es later i x name value r e is f not_it h =
    let entry : slice_get later i ≡ Some (name, value) = subst (λ t. slice_get t i ≡ Some (name, value)) e is in
    ap (λ b. b || begins_key (drop (i + 1) later) x) (sym not_it ∙ f) ∙ sym (begins_key-at later i x name value entry) ∙ h

-- what is compared with the keys is all that is after the offset
pub taken : (text : List ℕ) (i : ℕ) → take (length text - i) (drop i text) ≡ drop i text
taken text i = take_all (length text - i) (drop i text) (omega (arith, length-drop i text))

pub IfOk-weaker : {T E : Type 0} (P Q : T → Type 0) → ((x : T) → P x → Q x) → (r : Result T E) → IfOk r P → IfOk r Q
IfOk-weaker P Q f (Ok x) h = f x h
IfOk-weaker P Q f (Err e) h = tt

-- ---- what is held

pub MayBeHeld-is : (es : List (List ℕ × List ℕ)) (held : List ℕ) → may_be_held es held ≡ true → MayBeHeld es held
MayBeHeld-is es [] h = inl refl
MayBeHeld-is es (b ∷ bs) h =
    let both = and_parts (b == at_sign) (begins_key es bs) h in
    let begins = begins_key-true es bs both.1 in
    inr record { front = bs; rest = begins.rest; value = begins.value; opens = ap (λ x. x ∷ bs) (eqb-true b at_sign both.0); is_key = begins.is_key }

-- a key is at most as long as the longest
key-length : (es : List (List ℕ × List ℕ)) (k v : List ℕ) → value_of es k ≡ Some v → length k ≤ longest_of es
key-length es k v is =
    elim (ltb (longest_of es) (length k)) as (λ b. ltb (longest_of es) (length k) ≡ b → length k ≤ longest_of es) [
      | true ↦ λ e. let none : value_of es k ≡ None = value_of-too_long es (longest_of es) k (AreUpTo-longest es) (ltb-true _ _ e) in absurd cc
      | false ↦ λ e. ltb-false _ _ e
    ] refl

pub held-length : (es : List (List ℕ × List ℕ)) (held : List ℕ) → may_be_held es held ≡ true → length held ≤ longest_of es + 1
held-length es [] h = omega arith
held-length es (b ∷ bs) h =
    let begins = begins_key-true es bs (and_parts (b == at_sign) (begins_key es bs) h).1 in
    omega (arith, key-length es (bs ++ begins.rest) begins.value begins.is_key, length-append bs begins.rest)

module _ (es : List (List ℕ × List ℕ)) (names : HasShellNames es) where
  front-HasNoAt : (x rest : List ℕ) → HasNoAt (x ++ rest) → HasNoAt x
  front-HasNoAt [] rest h = tt
  front-HasNoAt (b ∷ bs) rest h = (h.0, front-HasNoAt bs rest h.1)

  begins-HasNoAt : (x : List ℕ) → begins_key es x ≡ true → HasNoAt x
  begins-HasNoAt x h =
      let begins = begins_key-true es x h in
      front-HasNoAt x begins.rest (IsShellName-HasNoAt (x ++ begins.rest) (value_of-IsShellName es (x ++ begins.rest) begins.value names begins.is_key))

  -- what is held is itself if filled
  pub held-filled : (held : List ℕ) → may_be_held es held ≡ true → held ≡ filled es held
  held-filled [] h = sym (filled-[] es)
  held-filled (b ∷ bs) h =
      let both = and_parts (b == at_sign) (begins_key es bs) h in
      let is : b ≡ at_sign = eqb-true b at_sign both.0 in
      let clean = begins-HasNoAt bs both.1 in
      ap (λ x. x ∷ bs) is ∙ ap (λ t. at_sign ∷ t) (sym (filled-end es bs clean)) ∙ sym (filled-open es bs clean) ∙ ap (λ x. filled es (x ∷ bs)) (sym is)

  no_at_in : (s t after : List ℕ) (n : ℕ) → HasNoAt s → n < length s → drop n (s ++ t) ≡ at_sign ∷ after → ⊥
  no_at_in [] t after n clean lt is = absurd (omega arith)
  no_at_in (c ∷ cs) t after zero clean lt is =
      let same : c ≡ at_sign = cc in
      let apart : (at_sign == at_sign) ≡ false = subst (λ x. (x == at_sign) ≡ false) same clean.0 in
      absurd cc
  no_at_in (c ∷ cs) t after (suc n) clean lt is = no_at_in cs t after n clean.1 (omega arith) is

  held_at : (x : List ℕ) → may_be_held es x ≡ true → (x ≡ []) ⊎ ((t : List ℕ) × (x ≡ at_sign ∷ t))
  held_at [] h = inl refl
  held_at (b ∷ bs) h = inr (bs, ap (λ c. c ∷ bs) (eqb-true b at_sign (and_parts (b == at_sign) (begins_key es bs) h).0))

  not_before : (bs piece : List ℕ) (n : ℕ) → HasNoAt bs → n < length bs → (drop n (bs ++ piece) ≡ []) ⊎ ((t : List ℕ) × (drop n (bs ++ piece) ≡ at_sign ∷ t)) → ⊥
  not_before bs piece n clean lt (inl e) = let none : length (drop n (bs ++ piece)) ≡ 0 = ap length e in absurd (omega (arith, length-drop n (bs ++ piece), length-append bs piece))
  not_before bs piece n clean lt (inr p) = no_at_in bs piece p.0 n clean lt p.1

  -- the front of a text that is cut before an `@` is empty, or contains what was held
  later_is : (held piece : List ℕ) (at : ℕ) → may_be_held es held ≡ true → may_be_held es (drop at (held ++ piece)) ≡ true → (take at (held ++ piece) ≡ []) ⊎ ((more : List ℕ) × (take at (held ++ piece) ≡ held ++ more))
  later_is [] piece at h may = inr (take at piece, refl)
  later_is (b ∷ bs) piece zero h may = inl refl
  later_is (b ∷ bs) piece (suc n) h may =
      elim (ltb n (length bs)) as (λ t. ltb n (length bs) ≡ t → (b ∷ take n (bs ++ piece) ≡ []) ⊎ ((more : List ℕ) × (b ∷ take n (bs ++ piece) ≡ b ∷ (bs ++ more)))) [
        | true ↦ λ e. absurd (not_before bs piece n (begins-HasNoAt bs (and_parts (b == at_sign) (begins_key es bs) h).1) (ltb-true n (length bs) e) (held_at (drop n (bs ++ piece)) may))
        | false ↦ λ e.
            let low : length bs ≤ n = ltb-false n (length bs) e in
            let m = n - length bs in
            let there : n ≡ length bs + m = omega arith in
            inr (take m piece, ap (λ t. b ∷ t) (ap (λ k. take k (bs ++ piece)) there ∙ take-append-add bs piece m))
      ] refl

  pub Feeds-parted : (held piece text given later : List ℕ) → may_be_held es held ≡ true → text ≡ held ++ piece → IsParted es text given later → Feeds es held piece given later
  Feeds-parted held piece text given later h e p = record {
    front = take p.at (held ++ piece);
    parted = sym (take-append-drop p.at (held ++ piece)) ∙ ap (λ t. take p.at (held ++ piece) ++ t) (ap (drop p.at) (sym e) ∙ sym p.is_later);
    is_given = p.is_given ∙ ap (λ t. filled es (take p.at t)) e;
    goes_on = λ rest. ap (λ t. filled es (t ++ rest)) (sym e) ∙ p.goes_on rest;
    past = later_is held piece p.at h (subst (λ t. may_be_held es t ≡ true) (p.is_later ∙ ap (drop p.at) e) p.may);
  }

-- ---- where a text is cut

module _ (es : List (List ℕ × List ℕ)) (text made : List ℕ) (start last : ℕ) where
  -- the whole text is given if what is after the last `@` goes on by itself
  ends : (opened : Bool) → HasComeTo es text made start last opened → HasNoAt (drop (read_to last opened) text) → ((rest : List ℕ) → filled es (drop last text ++ rest) ≡ drop last text ++ filled es rest)
      → IsParted es text (made ++ slice_range text start (length text)) (drop (length text) text)
  ends opened h clean copied =
      let pending : slice_range text start (length text) ≡ drop start text = take_all (length text - start) (drop start text) (omega (arith, length-drop start text)) in
      let none : drop (length text) text ≡ [] = drop-length text in
      let before = slice_range text start last in
      let all : (made ++ before) ++ drop last text ≡ made ++ slice_range text start (length text) =
      append_assoc made before (drop last text) ∙ ap (λ t. made ++ t) (sym (cut start last text h.ordered) ∙ sym pending) in
      record {
        at = length text;
        is_given = ap (λ t. made ++ t) pending ∙ comes_to_end es text made start last opened h clean ∙ ap (filled es) (sym (take_all (length text) text (omega arith)));
        is_later = refl;
        goes_on = λ rest.
            comes_whole es text made rest start last opened h
            ∙ ap (λ t. (made ++ before) ++ t) (copied rest)
            ∙ sym (append_assoc (made ++ before) (drop last text) (filled es rest))
            ∙ ap (λ t. t ++ filled es rest) all
            ∙ ap (λ t. (made ++ slice_range text start (length text)) ++ filled es (t ++ rest)) (sym none);
        may = ap (may_be_held es) none;
      }

  -- no key begins with what is after the last `@`
  parted_at_end : (opened : Bool) → HasComeTo es text made start last opened → HasNoAt (drop (read_to last opened) text) → (opened ≡ true → begins_key es (drop (last + 1) text) ≡ false)
      → IsParted es text (made ++ slice_range text start (length text)) (drop (length text) text)
  parted_at_end false h clean no_key = ends false h clean (λ rest. filled-plain es (drop last text) rest clean)
  parted_at_end true h clean no_key =
      let x = drop (last + 1) text in
      ends true h clean (λ rest.
      ap (λ t. filled es (t ++ rest)) (h.at_open refl)
      ∙ filled-no_front es x rest clean (λ k. begins_key-false es x k (no_key refl))
      ∙ ap (λ t. t ++ filled es rest) (sym (h.at_open refl)))

  -- an open `@` and the text after it are held
  parted_at_key : HasComeTo es text made start last true → begins_key es (drop (last + 1) text) ≡ true → IsParted es text (made ++ slice_range text start last) (drop last text)
  parted_at_key h begins =
      let given = made ++ slice_range text start last in
      record {
        at = last;
        is_given = sym (append-nil given) ∙ ap (λ t. given ++ t) (sym (filled-[] es)) ∙ sym (h.whole [] (λ _. tt)) ∙ ap (filled es) (append-nil (take last text));
        is_later = refl;
        goes_on = λ rest. comes_whole es text made rest start last true h;
        may = subst (λ t. may_be_held es t ≡ true) (sym (h.at_open refl)) begins;
      }

  -- either, as the code finds it
  pub parted : (opened is_held : Bool) (end : ℕ) → HasComeTo es text made start last opened → HasNoAt (drop (read_to last opened) text) → is_held ≡ (opened && begins_key es (drop (last + 1) text))
      → end ≡ cond is_held last (length text) → IsParted es text (made ++ slice_range text start end) (drop end text)
  parted true true end h clean e f = subst (λ n. IsParted es text (made ++ slice_range text start n) (drop n text)) (sym f) (parted_at_key h (sym e))
  parted true false end h clean e f = subst (λ n. IsParted es text (made ++ slice_range text start n) (drop n text)) (sym f) (parted_at_end true h clean (λ _. sym e))
  parted false true end h clean e f = absurd cc
  parted false false end h clean e f = subst (λ n. IsParted es text (made ++ slice_range text start n) (drop n text)) (sym f) (parted_at_end false h clean (λ is. absurd cc))
