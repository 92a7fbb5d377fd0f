-- Fronts and ends of a line.
use Rattle.std.proofs.Common.{◌≡◌, ◌≢◌, ℕ, ◌+◌, ◌<◌, ◌≤◌, Bool, true, false, ◌==◌, List, [], ◌∷◌, ◌++◌, Option, Some, None, Bor, length, drop, get_or, refl, sym, ap, ◌∙◌, inl, inr, ◌⊎◌}
use Rattle.std.specs.Prelude.{option_map}
use Rattle.std.specs.Option.{MatchOption}
use Rattle.std.proofs.lemmas.List.{drop_more}
use Rattle.std.proofs.Math.ListN.{drop_of_length-le}
use Rattle.std.proofs.lemmas.Bool.Decides.{eqb_tells}
use Rattle.cachefile.specs.Line.{rest_after, before_brace, sets_nothing, is_space, may_test, setting_of, assignment}

pub same : (n : ℕ) → (n == n) ≡ true
same n = elim (eqb_tells n n) [ inl h ↦ h.0 | inr h ↦ absurd (h.1 refl) ]

some_inj : (x y : List ℕ) → Some x ≡ Some y → x ≡ y
some_inj x y e = cc

none_is_some : (x : List ℕ) → None ≡ Some x → ⊥
none_is_some x e = absurd cc

-- the text after a front that was put there
pub rest_after-front : (front text : List ℕ) → rest_after front (front ++ text) ≡ Some text
unfolding rest_after
rest_after-front [] text = refl
rest_after-front (f ∷ front) text = rw (same f) (rest_after-front front text)

-- a text that has this rest after a front
pub front-rest_after : (front text rest : List ℕ) → rest_after front text ≡ Some rest → text ≡ front ++ rest
unfolding rest_after
front-rest_after [] text rest is = some_inj text rest is
front-rest_after (f ∷ front) [] rest is = absurd (none_is_some rest is)
front-rest_after (f ∷ front) (b ∷ bs) rest is = elim (eqb_tells b f) [
  | inl h ↦ let e : rest_after front bs ≡ Some rest = sym (rw (h.0) refl) ∙ is in
      ap (λ n. n ∷ bs) h.1 ∙ ap (λ t. f ∷ t) (front-rest_after front bs rest e)
  | inr h ↦ let e : None ≡ Some rest = sym (rw (h.0) refl) ∙ is in absurd (none_is_some rest e)
]

found : (o : Option (List ℕ)) → ((x : List ℕ) × (o ≡ Some x)) ⊎ (o ≡ None)
found None = inr refl
found (Some x) = inl (x, refl)

pub rest_after_is : (front text : List ℕ) (r : Option (Bor (List ℕ))) → MatchOption r ((rest : List ℕ) → text ≢ front ++ rest) (λ x. text ≡ front ++ x.now)
    → option_map (λ t. t.now) r ≡ rest_after front text
rest_after_is front text (Some x) is = sym (ap (rest_after front) is ∙ rest_after-front front x.now)
rest_after_is front text None lacks = elim (found (rest_after front text)) [
  | inl h ↦ absurd (lacks h.0 (front-rest_after front text h.0 h.1))
  | inr h ↦ sym h
]

-- a line that doesn't begin with `t` is no line with a test
pub untested : (line : List ℕ) → may_test line ≡ false → setting_of line ≡ assignment line
unfolding may_test setting_of rest_after
untested [] is = refl
untested (b ∷ bs) is = rw is refl

-- the brace at the end
pub brace_back : (w : List ℕ) → before_brace (w ++ 125 ∷ []) ≡ Some w
unfolding before_brace
brace_back [] = refl
brace_back (b ∷ []) = refl
brace_back (b ∷ c ∷ w) = ap (λ o. option_map (λ w. b ∷ w) o) (brace_back (c ∷ w))

mapped_from : (b : ℕ) (o : Option (List ℕ)) (w : List ℕ) → option_map (λ w. b ∷ w) o ≡ Some w → (v : List ℕ) × (o ≡ Some v) × (b ∷ v ≡ w)
mapped_from b None w is = absurd (none_is_some w is)
mapped_from b (Some v) w is = (v, refl, some_inj (b ∷ v) w is)

pub brace_front : (text w : List ℕ) → before_brace text ≡ Some w → text ≡ w ++ 125 ∷ []
unfolding before_brace
brace_front [] w is = absurd (none_is_some w is)
brace_front (b ∷ []) w is = elim (eqb_tells b 125) [
  | inl h ↦ let e : Some [] ≡ Some w = sym (rw (h.0) refl) ∙ is in ap (λ n. n ∷ []) h.1 ∙ ap (λ t. t ++ 125 ∷ []) (some_inj [] w e)
  | inr h ↦ let e : None ≡ Some w = sym (rw (h.0) refl) ∙ is in absurd (none_is_some w e)
]
brace_front (b ∷ c ∷ bs) w is =
    let p = mapped_from b (before_brace (c ∷ bs)) w is in
    ap (λ t. b ∷ t) (brace_front (c ∷ bs) p.0 p.1) ∙ ap (λ t. t ++ 125 ∷ []) p.2

pub brace_is : (text : List ℕ) (r : Option (Bor (List ℕ))) → MatchOption r ((front : List ℕ) → text ≢ front ++ 125 ∷ []) (λ x. text ≡ x.now ++ 125 ∷ [])
    → option_map (λ t. t.now) r ≡ before_brace text
brace_is text (Some x) is = sym (ap before_brace is ∙ brace_back x.now)
brace_is text None lacks = elim (found (before_brace text)) [
  | inl h ↦ absurd (lacks h.0 (brace_front text h.0 h.1))
  | inr h ↦ sym h
]

-- ---- a byte further

pub nothing_more : (whole : Bool) (xs : List ℕ) (i d : ℕ) → i < length xs → is_space (get_or xs i d) ≡ true → whole ≡ sets_nothing (drop i xs) → whole ≡ sets_nothing (drop (i + 1) xs)
unfolding sets_nothing
nothing_more whole xs i d lt is h = h ∙ ap sets_nothing (drop_more xs i d lt) ∙ rw is refl

pub nothing_stop : (whole : Bool) (xs : List ℕ) (i d : ℕ) → i < length xs → is_space (get_or xs i d) ≡ false → whole ≡ sets_nothing (drop i xs) → whole ≡ (get_or xs i d == 35)
unfolding sets_nothing
nothing_stop whole xs i d lt is h = h ∙ ap sets_nothing (drop_more xs i d lt) ∙ rw is refl

pub nothing_end : (whole : Bool) (xs : List ℕ) (i : ℕ) → length xs ≤ i → whole ≡ sets_nothing (drop i xs) → whole ≡ true
unfolding sets_nothing
nothing_end whole xs i le h = h ∙ ap sets_nothing (drop_of_length-le xs le)
