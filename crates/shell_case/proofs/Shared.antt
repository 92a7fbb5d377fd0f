-- The fronts that a text shares with its rests.
use Rattle.std.proofs.Common.{◌≡◌, ℕ, zero, suc, ◌+◌, ◌-◌, ◌<◌, ◌≤◌, min, Bool, true, false, ◌&&◌, ◌==◌, nat_lt, if◌then◌else◌, List, [], ◌∷◌, ◌++◌, length, get_or, take, drop, map, refl, sym, ap, subst, ◌∙◌, arith}
use Rattle.std.proofs.lemmas.Bool.{eqb-true, eq-eqb, ltb-true, and_parts}
use Rattle.std.proofs.lemmas.List.{drop-drop, get_or-take, length-drop, take_more}
use Rattle.shellword.specs.declared.pattern.Piece.TheVariants.{Byte}
use Rattle.shell_case.specs.Parts.{fits}
use Rattle.shell_case.specs.Fronts.{shared, shares, later}
use Rattle.shell_case.specs.declared.fronts.Stretch.{Stretch}

-- the second list's front goes over to the third
shared_along : (xs ys zs : List ℕ) → min (shared xs ys) (shared ys zs) ≤ shared xs zs
shared_along [] ys zs = omega arith
shared_along (x ∷ xs) [] zs = omega arith
shared_along (x ∷ xs) (y ∷ ys) [] = omega arith
shared_along (x ∷ xs) (y ∷ ys) (z ∷ zs) = by_first (y == x) (z == y) refl refl (shared_along xs ys zs) where
  by_first : (p q : Bool) → (y == x) ≡ p → (z == y) ≡ q → min (shared xs ys) (shared ys zs) ≤ shared xs zs
      → min (if p then suc (shared xs ys) else 0) (if q then suc (shared ys zs) else 0) ≤ (if z == x then suc (shared xs zs) else 0)
  by_first true true e f h = rw (eq-eqb z x (eqb-true z y f ∙ eqb-true y x e)) (omega (arith, h))
  by_first true false e f h = omega arith
  by_first false q e f h = omega arith

shared_drop : (n : ℕ) (xs ys : List ℕ) → shared xs ys ≤ n + shared (drop n xs) (drop n ys)
shared_drop zero xs ys = omega arith
shared_drop (suc n) [] ys = omega arith
shared_drop (suc n) (x ∷ xs) [] = omega arith
shared_drop (suc n) (x ∷ xs) (y ∷ ys) = by_first (y == x) (shared_drop n xs ys) where
  by_first : (p : Bool) → shared xs ys ≤ n + shared (drop n xs) (drop n ys) → (if p then suc (shared xs ys) else 0) ≤ suc n + shared (drop n xs) (drop n ys)
  by_first true h = omega (arith, h)
  by_first false h = omega arith

-- after bytes that are shared, what is shared goes on
pub shared_on : (n : ℕ) (xs ys : List ℕ) → n ≤ shared xs ys → n + shared (drop n xs) (drop n ys) ≡ shared xs ys
shared_on zero xs ys h = omega arith
shared_on (suc n) [] ys h = absurd (omega (arith, h))
shared_on (suc n) (x ∷ xs) [] h = absurd (omega (arith, h))
shared_on (suc n) (x ∷ xs) (y ∷ ys) h = by_first (y == x) h (shared_on n xs ys) where
  by_first : (p : Bool) → suc n ≤ (if p then suc (shared xs ys) else 0) → (n ≤ shared xs ys → n + shared (drop n xs) (drop n ys) ≡ shared xs ys)
      → suc n + shared (drop n xs) (drop n ys) ≡ (if p then suc (shared xs ys) else 0)
  by_first true k on = omega (arith, on (omega (arith, k)))
  by_first false k on = absurd (omega (arith, k))

pub shared_within : (xs ys : List ℕ) → shared xs ys ≤ length ys
shared_within [] ys = omega arith
shared_within (x ∷ xs) [] = omega arith
shared_within (x ∷ xs) (y ∷ ys) = by_first (y == x) (shared_within xs ys) where
  by_first : (p : Bool) → shared xs ys ≤ length ys → (if p then suc (shared xs ys) else 0) ≤ suc (length ys)
  by_first true h = omega (arith, h)
  by_first false h = omega arith

pub shared_end : (i s : ℕ) (xs ys : List ℕ) → i + shared (drop i xs) (drop i ys) ≡ s → length ys ≤ i → i ≤ length ys → length ys ≡ s
shared_end i s xs ys h le ge = omega (arith, h, le, ge, shared_within (drop i xs) (drop i ys), length-drop i ys)

-- ---- the table

pub shares_len : (whole xs : List ℕ) → length (shares whole xs) ≡ length xs
shares_len whole [] = refl
shares_len whole (x ∷ xs) = ap suc (shares_len whole xs)

pub shares_at : (whole xs : List ℕ) (i d : ℕ) → i < length xs → get_or (shares whole xs) i d ≡ shared whole (drop i xs)
shares_at whole [] i d lt = absurd (omega arith)
shares_at whole (x ∷ xs) zero d lt = refl
shares_at whole (x ∷ xs) (suc i) d lt = shares_at whole xs i d (omega arith)

pub shares_drop : (n : ℕ) (whole xs : List ℕ) → drop n (shares whole xs) ≡ shares whole (drop n xs)
shares_drop zero whole xs = refl
shares_drop (suc n) whole [] = refl
shares_drop (suc n) whole (x ∷ xs) = shares_drop n whole xs

-- What the text shares with its rest from `at` on is at least what a stretch around `at` and an earlier length show.
pub known_here : (text : List ℕ) (from to at k : ℕ) → from ≤ at → to - from ≤ shared text (drop from text)
    → k ≤ shared text (drop (at - from) text) → k ≤ to - at → k ≤ shared text (drop at text)
known_here text from to at k le stretch before left =
    let d = at - from in
    let e : from + d ≡ at = omega (arith, le) in
    let s : to - from ≤ d + shared (drop d text) (drop at text) =
    subst (λ (t : List ℕ). to - from ≤ d + shared (drop d text) t) (drop-drop d from text ∙ ap (λ (n : ℕ). drop n text) e)
    (omega (arith, stretch, shared_drop d text (drop from text))) in
    omega (arith, le, s, before, left, shared_along text (drop d text) (drop at text))

-- what is known of a stretch
pub record Front (text : List ℕ) (stretch : Stretch) : Type 0 where
  pub after : 1 ≤ stretch.from
  pub here : stretch.to - stretch.from ≤ shared text (drop stretch.from text)

pub front_later : (text : List ℕ) (stretch new : Stretch) (at len : ℕ) → Front text stretch → len ≡ shared text (drop at text) → new ≡ later stretch at len → Front text new
front_later text stretch new at len s e is = subst (Front text) (sym is) (by_test (nat_lt 0 at) (nat_lt stretch.to (at + len)) refl) where
  by_test : (p q : Bool) → nat_lt 0 at ≡ p → Front text (if p && q then record { from = at; to = at + len } else stretch)
  by_test true true f = record { after = omega (arith, ltb-true 0 at f); here = omega (arith, e) }
  by_test true false f = s
  by_test false q f = s

pub length_before : (text lens : List ℕ) (at from d : ℕ) → lens ≡ take at (shares text text) → at < length text → 1 ≤ from → from ≤ at
    → get_or lens (at - from) d ≡ shared text (drop (at - from) text)
length_before text lens at from d same lt one le =
    ap (λ (l : List ℕ). get_or l (at - from) d) same ∙ get_or-take at (shares text text) (at - from) d (omega (arith, one, le, lt))
    ∙ shares_at text text (at - from) d (omega (arith, lt))

pub one_more : (text lens : List ℕ) (at len : ℕ) → lens ≡ take at (shares text text) → at < length text → len ≡ shared text (drop at text)
    → lens ++ len ∷ [] ≡ take (at + 1) (shares text text)
one_more text lens at len same lt e =
    let here : len ≡ get_or (shares text text) at 0 = e ∙ sym (shares_at text text at 0 lt) in
    ap (λ (l : List ℕ). l ++ len ∷ []) same ∙ ap (λ (n : ℕ). take at (shares text text) ++ n ∷ []) here
    ∙ sym (take_more (shares text text) at 0 (omega (arith, lt, shares_len text text)))

-- ---- a part occurs where all of it is shared

pub part_shared : (part more text : List ℕ) → length part ≤ shared (part ++ more) text → fits (map Byte part) text ≡ true
part_shared [] more text h = refl
part_shared (c ∷ part) more [] h = absurd (omega (arith, h))
part_shared (c ∷ part) more (b ∷ bs) h = by_first (b == c) refl h (part_shared part more bs) where
  by_first : (p : Bool) → (b == c) ≡ p → suc (length part) ≤ (if p then suc (shared (part ++ more) bs) else 0)
      → (length part ≤ shared (part ++ more) bs → fits (map Byte part) bs ≡ true) → ((b == c) && fits (map Byte part) bs) ≡ true
  by_first true e k on = rw (e, on (omega (arith, k))) refl
  by_first false e k on = absurd (omega (arith, k))

pub shared_part : (part more text : List ℕ) → fits (map Byte part) text ≡ true → length part ≤ shared (part ++ more) text
shared_part [] more text h = omega arith
shared_part (c ∷ part) more [] h = absurd cc
shared_part (c ∷ part) more (b ∷ bs) h =
    let p = and_parts (b == c) (fits (map Byte part) bs) h in
    rw p.0 (omega (arith, shared_part part more bs p.1))
