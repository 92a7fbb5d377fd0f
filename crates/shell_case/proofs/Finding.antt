-- The first place of pieces that are all bytes is where the search for the bytes finds them.
use Rattle.std.proofs.Common.{◌≡◌, ℕ, zero, suc, ◌+◌, ◌<◌, ◌≤◌, Bool, true, false, ◌==◌, List, [], ◌∷◌, ◌++◌, length, take, drop, map, Option, Some, None, refl, sym, ap, subst, ◌∙◌, arith, length-append, slice_index}
use Rattle.std.proofs.lemmas.Bool.{eqb-true, eq-eqb, and_parts}
use Rattle.std.proofs.lemmas.List.{length-drop, length-take-le, take-append-drop}
use Rattle.memchr.specs.Find.{FindsNeedle, OccursAt}
use Rattle.shellword.specs.declared.pattern.Piece.TheVariants.{Byte}
use Rattle.shell_case.specs.Parts.{fits, IsFirstPlace}

pub never : (p : Bool) → (p ≡ true → ⊥) → p ≡ false
never true h = absurd (h refl)
never false h = refl

index_front : (front rest : List ℕ) (j : ℕ) → j < length front → slice_index (front ++ rest) j ≡ slice_index front j
index_front [] rest j h = absurd (omega arith)
index_front (b ∷ front) rest zero h = refl
index_front (b ∷ front) rest (suc j) h = index_front front rest j (omega arith)

index_after : (front rest : List ℕ) (j : ℕ) → slice_index (front ++ rest) (length front + j) ≡ slice_index rest j
index_after [] rest j = let e : 0 + j ≡ j = omega arith in ap (λ (k : ℕ). slice_index rest k) e
index_after (b ∷ front) rest j =
    let e : suc (length front) + j ≡ suc (length front + j) = omega arith in
    ap (λ (k : ℕ). slice_index (b ∷ (front ++ rest)) k) e ∙ index_after front rest j

-- a part between two others occurs where it is
occurs : (front part more : List ℕ) → OccursAt (front ++ (part ++ more)) part (length front)
occurs front part more = record {
  fits = omega (arith, length-append front (part ++ more), length-append part more);
  reads = λ j h. index_after front (part ++ more) j ∙ index_front part more j h;
}

-- equal bytes at each index
same_bytes : (xs ys : List ℕ) → length ys ≤ length xs → ((j : ℕ) → j < length ys → slice_index xs j ≡ slice_index ys j) → xs ≡ ys ++ drop (length ys) xs
same_bytes xs [] n h = refl
same_bytes [] (y ∷ ys) n h = absurd (omega arith)
same_bytes (x ∷ xs) (y ∷ ys) n h =
    let first : x ≡ y = h 0 (omega arith) in
    rw first (ap (λ (t : List ℕ). y ∷ t) (same_bytes xs ys (omega arith) (λ j k. h (suc j) (omega arith))))

index_drop : (k : ℕ) (xs : List ℕ) (j : ℕ) → slice_index (drop k xs) j ≡ slice_index xs (k + j)
index_drop zero xs j = let e : j ≡ 0 + j = omega arith in ap (λ (k : ℕ). slice_index xs k) e
index_drop (suc k) [] j = let e : suc (k + j) ≡ suc k + j = omega arith in ap (λ (i : ℕ). slice_index [] i) e
index_drop (suc k) (x ∷ xs) j = let e : suc (k + j) ≡ suc k + j = omega arith in index_drop k xs j ∙ ap (λ (i : ℕ). slice_index (x ∷ xs) i) e

-- ---- bytes fit where they occur

fits_part : (part more : List ℕ) → fits (map Byte part) (part ++ more) ≡ true
fits_part [] more = refl
fits_part (c ∷ part) more = rw (eq-eqb c c refl) (fits_part part more)

part_fits : (part text : List ℕ) → fits (map Byte part) text ≡ true → text ≡ part ++ drop (length part) text
part_fits [] text h = refl
part_fits (c ∷ part) [] h = absurd cc
part_fits (c ∷ part) (b ∷ bs) h =
    let p = and_parts (b == c) (fits (map Byte part) bs) h in
    rw (eqb-true b c p.0) (ap (λ (t : List ℕ). c ∷ t) (part_fits part bs p.1))

there : (text part : List ℕ) (k : ℕ) → OccursAt text part k → fits (map Byte part) (drop k text) ≡ true
there text part k h =
    ap (fits (map Byte part)) (same_bytes (drop k text) part (omega (arith, h.fits, length-drop k text)) (λ j n. index_drop k text j ∙ h.reads j n))
    ∙ fits_part part (drop (length part) (drop k text))

back : (text part : List ℕ) (k : ℕ) → k ≤ length text → fits (map Byte part) (drop k text) ≡ true → OccursAt text part k
back text part k le h =
    let more = drop (length part) (drop k text) in
    let whole : text ≡ take k text ++ (part ++ more) = sym (take-append-drop k text) ∙ ap (λ (t : List ℕ). take k text ++ t) (part_fits part (drop k text) h) in
    subst (λ (t : List ℕ). OccursAt t part k) (sym whole) (subst (OccursAt (take k text ++ (part ++ more)) part) (length-take-le k text le) (occurs (take k text) part more))

pub found_bytes : (text part : List ℕ) (r : Option ℕ) → FindsNeedle text part 0 r → IsFirstPlace (map Byte part) text r
found_bytes text part None h = λ k le. never _ (λ f. h k (omega arith) (omega (arith, le)) (back text part k le f))
found_bytes text part (Some k) h =
    (omega (arith, h.0.high), there text part k h.1, λ j lt. never _ (λ f. h.0.before j (omega arith) lt (back text part j (omega (arith, lt, h.0.high)) f)))
