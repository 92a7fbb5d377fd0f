-- What is before and after a call on its line, as tests of texts and of signs.
use Rattle.std.proofs.Common.{◌≡◌, ℕ, suc, ◌+◌, ◌-◌, ◌<◌, ◌≤◌, Bool, true, false, ◌||◌, cond, eqb, eq-eqb, ne_eqb, inl, inr, List, [], ◌∷◌, ◌++◌, length, get_or, reverse, refl, sym, ap, subst, ◌∙◌, arith}
use Rattle.std.specs.Prelude.{◌&&◌}
use Rattle.std.specs.List.{list_all, prefix_len}
use Rattle.std.proofs.lemmas.Bool.{eqb-true, eqb-false}
use Rattle.std.proofs.lemmas.List.{length-reverse, reverse-append, get_or-reverse}
use Rattle.std.proofs.lemmas.List.Folds.{list_all-append}
use Rattle.std.proofs.lemmas.List.Sums.{prefix_len-le-length}
use Rattle.m4quote.specs.Text.{is_blank}
use Rattle.ac_statement.specs.Stand.{is_space, begins_line, ends_line}
use Rattle.ac_statement.specs.Texts.{is_all_blank}
use Rattle.ac_statement.proofs.Runs.{either}
use Rattle.ac_laws.specs.Signs.{Sign, call_sign, byte_sign, bytes}

-- ---- which bytes end a line, before a call and after it

abbrev pub ends_before : ℕ → Bool
ends_before b = eqb b 10 || eqb b 59

abbrev pub ends_after : ℕ → Bool
ends_after b = eqb b 10 || eqb b 59 || eqb b 35

-- The first byte that is no space passes the test. If there is none, the answer is `rest`.
abbrev pub opens : (ℕ → Bool) → Bool → List ℕ → Bool
opens test rest [] = rest
opens test rest (b ∷ bs) = cond (is_space b) (opens test rest bs) (test b)

abbrev pub signs_open : (ℕ → Bool) → List Sign → Bool
signs_open test [] = true
signs_open test (call_sign at ∷ signs) = true
signs_open test (byte_sign b ∷ signs) = cond (is_space b) (signs_open test signs) (test b)

pub bytes_open : (test : ℕ → Bool) (text : List ℕ) (signs : List Sign)
    → signs_open test (bytes text ++ signs) ≡ opens test (signs_open test signs) text
bytes_open test [] signs = refl
bytes_open test (b ∷ bs) signs = ap (λ x. cond (is_space b) x (test b)) (bytes_open test bs signs)

pub opens-append : (test : ℕ → Bool) (rest : Bool) (a b : List ℕ)
    → opens test rest (a ++ b) ≡ opens test (opens test rest b) a
opens-append test rest [] b = refl
opens-append test rest (x ∷ xs) b =
    ap (λ y. cond (is_space x) y (test x)) (opens-append test rest xs b)

-- ---- the tests of a text

eqb_more : (n m : ℕ) → eqb (1 + n) (suc m) ≡ eqb n m
eqb_more n m =
    elim (either (eqb n m)) [
      | inl is ↦ (let e = eqb-true n m is in eq-eqb (1 + n) (suc m) (omega (arith, e)) ∙ sym is)
      | inr other ↦
          (let ne = eqb-false n m other in ne_eqb (1 + n) (suc m) (λ h. ne (omega (arith, h)))
          ∙ sym other)
    ]

first_byte : (test : ℕ → Bool) (text : List ℕ)
    → (eqb (prefix_len is_space text) (length text) || test
    (get_or text (prefix_len is_space text) 0)) ≡ opens test true text
first_byte test [] = refl
first_byte test (b ∷ bs) =
    elim (either (is_space b)) [
      | inl space ↦
          (let n = prefix_len is_space bs in
          let next : get_or (b ∷ bs) (1 + n) 0 ≡ get_or bs n 0 =
          ap (λ k. get_or (b ∷ bs) k 0) (let e : 1 + n ≡ suc n = omega arith in e) in
          rw (space, eqb_more n (length bs), next) (first_byte test bs))
      | inr other ↦
          (let none : eqb 0 (suc (length bs)) ≡ false = ne_eqb 0 (suc (length bs))
          (λ h. omega (arith, h)) in rw (other, none) refl)
    ]

pub both_true : (a b : Bool) → (a && b) ≡ true → (a ≡ true) × (b ≡ true)
both_true true b e = (refl, e)
both_true false b e = absurd cc

-- A blank that is no space is a newline.
newline_is : (b : ℕ) → is_blank b ≡ true → is_space b ≡ false → b ≡ 10
newline_is b blank other = by (eqb b 32) (eqb b 9) (eqb b 10) refl blank other where
  by : (x y z : Bool) → eqb b 10 ≡ z → (x || y || z) ≡ true → (x || y) ≡ false → b ≡ 10
  by true y z e h k = absurd cc
  by false true z e h k = absurd cc
  by false false z e h k = eqb-true b 10 (e ∙ h)

blank_opens : (test : ℕ → Bool) → test 10 ≡ true → (text : List ℕ) → is_all_blank text ≡ true
    → opens test true text ≡ true
blank_opens test line [] blank = refl
blank_opens test line (b ∷ bs) blank =
    let both = both_true (is_blank b) (is_all_blank bs) blank in
    elim (either (is_space b)) [
      | inl space ↦ rw space (blank_opens test line bs both.1)
      | inr other ↦ rw other (ap test (newline_is b both.0 other) ∙ line)
    ]

implied : (a b c : Bool) → (a ≡ true → c ≡ true) → b ≡ c → (a || b) ≡ c
implied true b c f e = sym (f refl)
implied false b c f e = e

regrouped : (x a b c : Bool) → (x || a || b || c) ≡ (x || (a || b || c))
regrouped true a b c = refl
regrouped false a b c = refl

pub text_after : (text : List ℕ)
    → (is_all_blank text || begins_line text) ≡ opens ends_after true text
text_after text =
    implied (is_all_blank text) (begins_line text) (opens ends_after true text)
    (blank_opens ends_after refl text)
    (let n = prefix_len is_space text in
    let b = get_or text n 0 in
    regrouped (eqb n (length text)) (eqb b 10) (eqb b 59) (eqb b 35) ∙ first_byte ends_after text)

pub list_all-reverse : (p : ℕ → Bool) (xs : List ℕ) → list_all p xs ≡ true
    → list_all p (reverse xs) ≡ true
list_all-reverse p [] h = refl
list_all-reverse p (x ∷ xs) h =
    let both = both_true (p x) (list_all p xs) h in
    ap (list_all p) (reverse-append (x ∷ []) xs) ∙ list_all-append p (reverse xs) (x ∷ [])
    ∙ rw (list_all-reverse p xs both.1, both.0) refl

line_ends : (text : List ℕ) → ends_line text ≡ opens ends_before true (reverse text)
line_ends text =
    let n = prefix_len is_space (reverse text) in
    let le : n ≤ length text =
    subst (λ m. n ≤ m) (length-reverse text) (prefix_len-le-length is_space (reverse text)) in
    elim (either (eqb n (length text))) [
      | inl all ↦
          (let e : eqb n (length (reverse text)) ≡ true = ap (eqb n) (length-reverse text)
          ∙ all in rw all (sym (sym (first_byte ends_before (reverse text)) ∙ rw e refl)))
      | inr some ↦
          (let e : eqb n (length (reverse text)) ≡ false = ap (eqb n) (length-reverse text)
          ∙ some in
          let lt : n < length text =
          (let ne = eqb-false n (length text) some in omega (arith, ne, le)) in
          let byte : get_or (reverse text) n 0 ≡ get_or text (length text - 1 - n) 0 =
          get_or-reverse text n 0 lt in
          rw some
          (ap ends_before (sym byte)
          ∙ sym (sym (first_byte ends_before (reverse text)) ∙ rw e refl)))
    ]

pub text_before : (text : List ℕ)
    → (is_all_blank text || ends_line text) ≡ opens ends_before true (reverse text)
text_before text =
    implied (is_all_blank text) (ends_line text) (opens ends_before true (reverse text))
    (λ blank. blank_opens ends_before refl (reverse text) (list_all-reverse is_blank text blank))
    (line_ends text)
