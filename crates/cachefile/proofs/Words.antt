-- Words are read as their values, and the word that is written for a value is read as it.
use Rattle.std.proofs.Common.{◌≡◌, ℕ, Bool, true, false, not, ◌&&◌, ◌==◌, List, [], ◌∷◌, ◌++◌, Option, Some, None, ◌⊎◌, inl, inr, refl, sym, ap, ◌∙◌, subst, append_assoc}
use Rattle.std.specs.Prelude.{option_map, Result, Ok, Err, IfOk}
use Rattle.std.specs.List.{list_all}
use Rattle.std.proofs.lemmas.List.{append-nil}
use Rattle.std.proofs.lemmas.Bool.Decides.{eqb_tells}
use Rattle.cachefile.specs.declared.word.Quoting.TheVariants.{Unquoted, Single, Double, Escaped}
use Rattle.cachefile.specs.declared.word.Quoting.{Quoting}
use Rattle.cachefile.specs.Word as form
use Rattle.cachefile.proofs.Loops.{read_byte, stops_at}
use Rattle.cachefile.specs.Word.{IsWord, is_double_quoted, at_end, value_from, value_in, step, is_bare, is_safe, quoted_text, quoted_byte, word_of}

true_is_false : true ≡ false → ⊥
true_is_false e = absurd cc

-- a safe byte is no byte that isn't
pub apart : (b n : ℕ) → is_safe b ≡ true → is_safe n ≡ false → (b == n) ≡ false
apart b n safe other = elim (eqb_tells b n) [ inl h ↦ absurd (true_is_false (sym safe ∙ ap is_safe h.1 ∙ other)) | inr h ↦ h.0 ]

pub safe_is_bare : (braced : Bool) (b : ℕ) → is_safe b ≡ true → is_bare braced b ≡ true
safe_is_bare true b safe = rw (apart b 32 safe refl, apart b 9 safe refl, apart b 10 safe refl, apart b 39 safe refl, apart b 34 safe refl, apart b 92 safe refl, apart b 36 safe refl, apart b 96 safe refl, apart b 59 safe refl, apart b 38 safe refl, apart b 124 safe refl, apart b 60 safe refl, apart b 62 safe refl, apart b 40 safe refl, apart b 41 safe refl, apart b 125 safe refl) refl
safe_is_bare false b safe = rw (apart b 32 safe refl, apart b 9 safe refl, apart b 10 safe refl, apart b 39 safe refl, apart b 34 safe refl, apart b 92 safe refl, apart b 36 safe refl, apart b 96 safe refl, apart b 59 safe refl, apart b 38 safe refl, apart b 124 safe refl, apart b 60 safe refl, apart b 62 safe refl, apart b 40 safe refl, apart b 41 safe refl) refl

pub safe_step : (braced : Bool) (b : ℕ) → is_safe b ≡ true → step braced Unquoted b ≡ Some (Unquoted, b ∷ [])
unfolding step
safe_step braced b safe = rw (safe_is_bare braced b safe, apart b 39 safe refl, apart b 34 safe refl, apart b 92 safe refl) refl

pub both_true : (a b : Bool) → (a && b) ≡ true → (a ≡ true) × (b ≡ true)
both_true true true e = (refl, refl)
both_true true false e = absurd cc
both_true false b e = absurd cc

-- a safe text is read as itself
pub safe_reads : (braced : Bool) (v : List ℕ) → list_all is_safe v ≡ true → value_in braced v ≡ Some v
unfolding value_from
safe_reads braced [] safe = refl
safe_reads braced (b ∷ bs) safe =
    let p = both_true (is_safe b) (list_all is_safe bs) safe in
    read_byte braced Unquoted Unquoted b (b ∷ []) bs (safe_step braced b p.0) ∙ ap (λ o. option_map (λ v. (b ∷ []) ++ v) o) (safe_reads braced bs p.1)

pub both_are : (a b : Bool) → a ≡ true → b ≡ true → (a && b) ≡ true
both_are a b h k = rw (h, k) refl

mapped_twice : (a b : List ℕ) (o : Option (List ℕ)) → option_map (λ v. a ++ v) (option_map (λ v. b ++ v) o) ≡ option_map (λ v. (a ++ b) ++ v) o
mapped_twice a b None = refl
mapped_twice a b (Some v) = ap (λ t. Some t) (sym (append_assoc a b v))

mapped_none : (o : Option (List ℕ)) → option_map (λ w. [] ++ w) o ≡ o
mapped_none None = refl
mapped_none (Some v) = refl

many_none : (o : Option (List ℕ)) → option_map (λ v. [] ++ v) (option_map (λ v. [] ++ v) (option_map (λ v. (39 ∷ []) ++ v) (option_map (λ v. [] ++ v) o))) ≡ option_map (λ v. (39 ∷ []) ++ v) o
many_none None = refl
many_none (Some v) = refl

quote_reads : (braced : Bool) (rest : List ℕ) → value_from braced Single (39 ∷ 92 ∷ 39 ∷ 39 ∷ rest) ≡ option_map (λ v. (39 ∷ []) ++ v) (value_from braced Single rest)
unfolding value_from step
quote_reads braced rest = many_none (value_from braced Single rest)

plain_inside : (b : ℕ) → (b == 39) ≡ false → quoted_byte b ≡ b ∷ []
plain_inside b h = rw h refl

plain_single : (braced : Bool) (b : ℕ) → (b == 39) ≡ false → step braced Single b ≡ Some (Single, b ∷ [])
unfolding step
plain_single braced b h = rw h refl

-- one byte in single quotes is read as itself
one_reads : (braced : Bool) (b : ℕ) (rest : List ℕ) → value_from braced Single (quoted_byte b ++ rest) ≡ option_map (λ v. (b ∷ []) ++ v) (value_from braced Single rest)
unfolding value_from step
one_reads braced b rest = elim (eqb_tells b 39) [
  | inl h ↦ subst (λ n. value_from braced Single (quoted_byte n ++ rest) ≡ option_map (λ v. (n ∷ []) ++ v) (value_from braced Single rest)) (sym h.1) (quote_reads braced rest)
  | inr h ↦ ap (λ t. value_from braced Single (t ++ rest)) (plain_inside b h.0) ∙ read_byte braced Single Single b (b ∷ []) rest (plain_single braced b h.0)
]

-- a text in single quotes is read as itself
pub quoted_reads : (braced : Bool) (v rest : List ℕ) → value_from braced Single (quoted_text v ++ rest) ≡ option_map (λ w. v ++ w) (value_from braced Single rest)
quoted_reads braced [] rest = sym (mapped_none (value_from braced Single rest))
quoted_reads braced (b ∷ v) rest =
    ap (λ t. value_from braced Single t) (append_assoc (quoted_byte b) (quoted_text v) rest)
    ∙ one_reads braced b (quoted_text v ++ rest)
    ∙ ap (λ o. option_map (λ w. (b ∷ []) ++ w) o) (quoted_reads braced v rest)
    ∙ mapped_twice (b ∷ []) v (value_from braced Single rest)

decided : (b : Bool) → (b ≡ true) ⊎ (b ≡ false)
decided true = inl refl
decided false = inr refl

-- the word that is written for a value is read as it
pub word_of_reads : (braced : Bool) (v : List ℕ) → value_in braced (word_of v) ≡ Some v
unfolding word_of value_from step
word_of_reads braced v = elim (decided (list_all is_safe v)) [
  | inl h ↦ rw h (safe_reads braced v h)
  | inr h ↦ rw h (ap (λ o. option_map (λ w. [] ++ w) o) (quoted_reads braced v (39 ∷ [])) ∙ ap (λ t. Some t) (append-nil v))
]

-- ---- words by their forms

some_inj : (x y : List ℕ) → Some x ≡ Some y → x ≡ y
some_inj x y e = cc

none_is_some : (x : List ℕ) → None ≡ Some x → ⊥
none_is_some x e = absurd cc

mapped_some : (add : List ℕ) (o : Option (List ℕ)) (v : List ℕ) → o ≡ Some v → option_map (λ w. add ++ w) o ≡ Some (add ++ v)
mapped_some add o v is = ap (λ o. option_map (λ w. add ++ w) o) is

mapped_back : (add : List ℕ) (o : Option (List ℕ)) (v : List ℕ) → option_map (λ w. add ++ w) o ≡ Some v → (w : List ℕ) × (o ≡ Some w) × (add ++ w ≡ v)
mapped_back add None v is = absurd (none_is_some v is)
mapped_back add (Some w) v is = (w, refl, some_inj (add ++ w) v is)

not_false : (b : Bool) → not b ≡ true → b ≡ false
not_false true e = absurd cc
not_false false e = refl

single_read : (braced : Bool) (inside rest value : List ℕ) → list_all (λ b. not (b == 39)) inside ≡ true → value_from braced Unquoted rest ≡ Some value
    → value_from braced Single (inside ++ 39 ∷ rest) ≡ Some (inside ++ value)
unfolding value_from step
single_read braced [] rest value all is = ap (λ o. option_map (λ w. [] ++ w) o) is
single_read braced (b ∷ inside) rest value all is =
    let p = both_true (not (b == 39)) (list_all (λ b. not (b == 39)) inside) all in
    read_byte braced Single Single b (b ∷ []) (inside ++ 39 ∷ rest) (plain_single braced b (not_false (b == 39) p.0))
    ∙ mapped_some (b ∷ []) (value_from braced Single (inside ++ 39 ∷ rest)) (inside ++ value) (single_read braced inside rest value p.1 is)

double_step : (b : ℕ) → is_double_quoted b ≡ true → (braced : Bool) → step braced Double b ≡ Some (Double, b ∷ [])
unfolding step
double_step b ok braced = elim (eqb_tells b 34) [
  | inl h ↦ absurd (true_is_false (sym ok ∙ ap is_double_quoted h.1))
  | inr h ↦ (elim (eqb_tells b 36) [
    | inl k ↦ absurd (true_is_false (sym ok ∙ ap is_double_quoted k.1))
    | inr k ↦ (elim (eqb_tells b 96) [
      | inl m ↦ absurd (true_is_false (sym ok ∙ ap is_double_quoted m.1))
      | inr m ↦ (elim (eqb_tells b 92) [
        | inl n ↦ absurd (true_is_false (sym ok ∙ ap is_double_quoted n.1))
        | inr n ↦ rw (h.0, k.0, m.0, n.0) refl
      ])
    ])
  ])
]

double_read : (braced : Bool) (inside rest value : List ℕ) → list_all is_double_quoted inside ≡ true → value_from braced Unquoted rest ≡ Some value
    → value_from braced Double (inside ++ 34 ∷ rest) ≡ Some (inside ++ value)
unfolding value_from step
double_read braced [] rest value all is = ap (λ o. option_map (λ w. [] ++ w) o) is
double_read braced (b ∷ inside) rest value all is =
    let p = both_true (is_double_quoted b) (list_all is_double_quoted inside) all in
    read_byte braced Double Double b (b ∷ []) (inside ++ 34 ∷ rest) (double_step b p.0 braced)
    ∙ mapped_some (b ∷ []) (value_from braced Double (inside ++ 34 ∷ rest)) (inside ++ value) (double_read braced inside rest value p.1 is)

bare_step : (braced : Bool) (b : ℕ) → is_bare braced b ≡ true → step braced Unquoted b ≡ Some (Unquoted, b ∷ [])
unfolding step
bare_step braced b ok = elim (eqb_tells b 39) [
  | inl h ↦ absurd (true_is_false (sym ok ∙ ap (is_bare braced) h.1))
  | inr h ↦ (elim (eqb_tells b 34) [
    | inl k ↦ absurd (true_is_false (sym ok ∙ ap (is_bare braced) k.1))
    | inr k ↦ (elim (eqb_tells b 92) [
      | inl m ↦ absurd (true_is_false (sym ok ∙ ap (is_bare braced) m.1))
      | inr m ↦ rw (ok, h.0, k.0, m.0) refl
    ])
  ])
]

-- a word is read as its value
pub word_read : (braced : Bool) (w value : List ℕ) → IsWord braced w value → value_in braced w ≡ Some value
unfolding value_from step
word_read braced w value form.no_more = refl
word_read braced w value (form.single inside rest {value = v} all is) =
    ap (λ o. option_map (λ w. [] ++ w) o) (single_read braced inside rest v all (word_read braced rest v is))
word_read braced w value (form.double inside rest {value = v} all is) =
    ap (λ o. option_map (λ w. [] ++ w) o) (double_read braced inside rest v all (word_read braced rest v is))
word_read braced w value (form.escaped {b} {rest} {value = v} is) =
    ap (λ o. option_map (λ w. [] ++ w) (option_map (λ w. (b ∷ []) ++ w) o)) (word_read braced rest v is)
word_read braced w value (form.bare {b} {rest} {value = v} ok is) =
    read_byte braced Unquoted Unquoted b (b ∷ []) rest (bare_step braced b ok) ∙ mapped_some (b ∷ []) (value_from braced Unquoted rest) v (word_read braced rest v is)

-- the parts of a text that is read from this quoting on
abbrev Left : Bool → Quoting → List ℕ → List ℕ → Type 0
Left braced Unquoted text v = IsWord braced text v
Left braced Single text v = (inside : List ℕ) × (rest : List ℕ) × (value : List ℕ) × (list_all (λ b. not (b == 39)) inside ≡ true) × IsWord braced rest value × (inside ++ 39 ∷ rest ≡ text) × (inside ++ value ≡ v)
Left braced Double text v = (inside : List ℕ) × (rest : List ℕ) × (value : List ℕ) × (list_all is_double_quoted inside ≡ true) × IsWord braced rest value × (inside ++ 34 ∷ rest ≡ text) × (inside ++ value ≡ v)
Left braced Escaped text v = (b : ℕ) × (rest : List ℕ) × (value : List ℕ) × IsWord braced rest value × (b ∷ rest ≡ text) × (b ∷ value ≡ v)

carried : (braced : Bool) (s t u v : List ℕ) → s ≡ t → u ≡ v → IsWord braced s u → IsWord braced t v
carried braced s t u v e f w = subst (λ x. IsWord braced x v) e (subst (λ y. IsWord braced s y) f w)

stepped : (braced : Bool) (p q : Quoting) (b : ℕ) (add bs v : List ℕ) → step braced p b ≡ Some (q, add) → value_from braced p (b ∷ bs) ≡ Some v
    → (w : List ℕ) × (value_from braced q bs ≡ Some w) × (add ++ w ≡ v)
stepped braced p q b add bs v one is = mapped_back add (value_from braced q bs) v (sym (read_byte braced p q b add bs one) ∙ is)

stopped : (braced : Bool) (p : Quoting) (b : ℕ) (bs v : List ℕ) → step braced p b ≡ None → value_from braced p (b ∷ bs) ≡ Some v → ⊥
stopped braced p b bs v one is = none_is_some v (sym (stops_at braced p b bs one) ∙ is)

-- what a byte does outside quotes
plain_single_quote : (braced : Bool) (b : ℕ) → (b == 39) ≡ true → step braced Unquoted b ≡ Some (Single, [])
unfolding step
plain_single_quote braced b h = rw h refl

plain_double_quote : (braced : Bool) (b : ℕ) → (b == 39) ≡ false → (b == 34) ≡ true → step braced Unquoted b ≡ Some (Double, [])
unfolding step
plain_double_quote braced b h k = rw (h, k) refl

plain_backslash : (braced : Bool) (b : ℕ) → (b == 39) ≡ false → (b == 34) ≡ false → (b == 92) ≡ true → step braced Unquoted b ≡ Some (Escaped, [])
unfolding step
plain_backslash braced b h k m = rw (h, k, m) refl

plain_refused : (braced : Bool) (b : ℕ) → (b == 39) ≡ false → (b == 34) ≡ false → (b == 92) ≡ false → is_bare braced b ≡ false → step braced Unquoted b ≡ None
unfolding step
plain_refused braced b h k m n = rw (n, h, k, m) refl

single_quote : (braced : Bool) (b : ℕ) → (b == 39) ≡ true → step braced Single b ≡ Some (Unquoted, [])
unfolding step
single_quote braced b h = rw h refl

double_quote : (braced : Bool) (b : ℕ) → (b == 34) ≡ true → step braced Double b ≡ Some (Unquoted, [])
unfolding step
double_quote braced b h = rw h refl

double_refused : (braced : Bool) (b : ℕ) → (b == 34) ≡ false → is_double_quoted b ≡ false → step braced Double b ≡ None
unfolding step
double_refused braced b h k = rw h (elim (eqb_tells b 36) [
  | inl m ↦ rw (m.0) refl
  | inr m ↦ (elim (eqb_tells b 96) [
    | inl n ↦ rw (m.0, n.0) refl
    | inr n ↦ (elim (eqb_tells b 92) [
      | inl o ↦ rw (m.0, n.0, o.0) refl
      | inr o ↦ absurd (true_is_false (sym (rw (h, m.0, n.0, o.0) refl) ∙ k))
    ])
  ])
])

escape_step : (braced : Bool) (b : ℕ) → step braced Escaped b ≡ Some (Unquoted, b ∷ [])
unfolding step
escape_step braced b = refl

word_left : (braced : Bool) (p : Quoting) (text v : List ℕ) → value_from braced p text ≡ Some v → Left braced p text v
unfolding value_from
word_left braced Unquoted [] v is = carried braced [] [] [] v refl (some_inj [] v is) form.no_more
word_left braced Single [] v is = absurd (none_is_some v is)
word_left braced Double [] v is = absurd (none_is_some v is)
word_left braced Escaped [] v is = absurd (none_is_some v is)
word_left braced Escaped (b ∷ bs) v is =
    let s = stepped braced Escaped Unquoted b (b ∷ []) bs v (escape_step braced b) is in
    (b, bs, s.0, word_left braced Unquoted bs s.0 s.1, refl, s.2)
word_left braced Single (b ∷ bs) v is = elim (eqb_tells b 39) [
  | inl h ↦
      let s = stepped braced Single Unquoted b [] bs v (single_quote braced b h.0) is in
      ([], bs, s.0, refl, word_left braced Unquoted bs s.0 s.1, ap (λ n. n ∷ bs) (sym h.1), s.2)
  | inr h ↦
      let s = stepped braced Single Single b (b ∷ []) bs v (plain_single braced b h.0) is in
      let l = word_left braced Single bs s.0 s.1 in
      (b ∷ l.0, l.1, l.2, rw (h.0) l.3, l.4, ap (λ t. b ∷ t) l.5, ap (λ t. b ∷ t) l.6 ∙ s.2)
]
word_left braced Double (b ∷ bs) v is = elim (eqb_tells b 34) [
  | inl h ↦
      let s = stepped braced Double Unquoted b [] bs v (double_quote braced b h.0) is in
      ([], bs, s.0, refl, word_left braced Unquoted bs s.0 s.1, ap (λ n. n ∷ bs) (sym h.1), s.2)
  | inr h ↦ (elim (decided (is_double_quoted b)) [
    | inl k ↦
        let s = stepped braced Double Double b (b ∷ []) bs v (double_step b k braced) is in
        let l = word_left braced Double bs s.0 s.1 in
        (b ∷ l.0, l.1, l.2, both_are (is_double_quoted b) (list_all is_double_quoted l.0) k l.3, l.4, ap (λ t. b ∷ t) l.5, ap (λ t. b ∷ t) l.6 ∙ s.2)
    | inr k ↦ absurd (stopped braced Double b bs v (double_refused braced b h.0 k) is)
  ])
]
word_left braced Unquoted (b ∷ bs) v is = elim (eqb_tells b 39) [
  | inl h ↦
      let s = stepped braced Unquoted Single b [] bs v (plain_single_quote braced b h.0) is in
      let l = word_left braced Single bs s.0 s.1 in
      carried braced (39 ∷ (l.0 ++ 39 ∷ l.1)) (b ∷ bs) (l.0 ++ l.2) v (ap (λ t. 39 ∷ t) l.5 ∙ ap (λ n. n ∷ bs) (sym h.1)) (l.6 ∙ s.2) (form.single l.0 l.1 l.3 l.4)
  | inr h ↦ (elim (eqb_tells b 34) [
    | inl k ↦
        let s = stepped braced Unquoted Double b [] bs v (plain_double_quote braced b h.0 k.0) is in
        let l = word_left braced Double bs s.0 s.1 in
        carried braced (34 ∷ (l.0 ++ 34 ∷ l.1)) (b ∷ bs) (l.0 ++ l.2) v (ap (λ t. 34 ∷ t) l.5 ∙ ap (λ n. n ∷ bs) (sym k.1)) (l.6 ∙ s.2) (form.double l.0 l.1 l.3 l.4)
    | inr k ↦ (elim (eqb_tells b 92) [
      | inl m ↦
          let s = stepped braced Unquoted Escaped b [] bs v (plain_backslash braced b h.0 k.0 m.0) is in
          let l = word_left braced Escaped bs s.0 s.1 in
          carried braced (92 ∷ l.0 ∷ l.1) (b ∷ bs) (l.0 ∷ l.2) v (ap (λ t. 92 ∷ t) l.4 ∙ ap (λ n. n ∷ bs) (sym m.1)) (l.5 ∙ s.2) (form.escaped l.3)
      | inr m ↦ (elim (decided (is_bare braced b)) [
        | inl n ↦
            let s = stepped braced Unquoted Unquoted b (b ∷ []) bs v (bare_step braced b n) is in
            carried braced (b ∷ bs) (b ∷ bs) (b ∷ s.0) v refl s.2 (form.bare n (word_left braced Unquoted bs s.0 s.1))
        | inr n ↦ absurd (stopped braced Unquoted b bs v (plain_refused braced b h.0 k.0 m.0 n) is)
      ])
    ])
  ])
]

-- what is read as a value is a word with it
pub word_is : (braced : Bool) (w value : List ℕ) → value_in braced w ≡ Some value → IsWord braced w value
word_is braced w value is = word_left braced Unquoted w value is

-- the word that is written for a value stands for it
word_of_is : (braced : Bool) (v : List ℕ) → IsWord braced (word_of v) v
word_of_is braced v = word_is braced (word_of v) v (word_of_reads braced v)

-- ---- what a call returns

pub returned_is : {E : Type 0} (v : List ℕ) (r : Result (List ℕ) E) → IfOk r (λ w. w ≡ word_of v) → IfOk r (λ w. (braced : Bool) → IsWord braced w v)
returned_is v (Ok w) is = λ braced. subst (λ x. IsWord braced x v) (sym is) (word_of_is braced v)
returned_is v (Err e) is = tt

pub word_if_safe : {E : Type 0} (v : List ℕ) (r : Result (List ℕ) E) → list_all is_safe v ≡ true → IfOk r (λ w. w ≡ v) → IfOk r (λ w. w ≡ word_of v)
unfolding word_of
word_if_safe v (Ok w) safe is = is ∙ sym (rw safe refl)
word_if_safe v (Err e) safe is = tt

pub word_if_unsafe : {E : Type 0} (v : List ℕ) (r : Result (List ℕ) E) → list_all is_safe v ≡ false → IfOk r (λ w. w ≡ 39 ∷ (quoted_text v ++ 39 ∷ [])) → IfOk r (λ w. w ≡ word_of v)
unfolding word_of
word_if_unsafe v (Ok w) unsafe is = is ∙ sym (rw unsafe refl)
word_if_unsafe v (Err e) unsafe is = tt
