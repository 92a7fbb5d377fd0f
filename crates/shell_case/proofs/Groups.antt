-- What the pieces between two stars say of the rest of a match.
use Rattle.std.proofs.Common.{◌≡◌, ℕ, zero, suc, ◌+◌, ◌-◌, ◌<◌, ◌≤◌, Bool, true, false, ◌&&◌, ◌||◌, ◌==◌, nat_le, List, [], ◌∷◌, ◌++◌, length, take, drop, Some, None, refl, sym, ap, ◌∙◌, arith, length-append}
use Rattle.std.specs.List.{list_all}
use Rattle.std.proofs.Math.Bool.{and_assoc}
use Rattle.std.proofs.lemmas.Bool.{eqb-true, eq-eqb, le-leb, leb-true, and_parts, or_right}
use Rattle.std.proofs.lemmas.List.{append-nil, drop-drop, drop_all, length-drop, take-append-drop}
use Rattle.shellword.specs.declared.pattern.Piece.{Piece}
use Rattle.shellword.specs.declared.pattern.Piece.TheVariants.{AnyBytes, OneByte, Byte}
use Rattle.shellword.proofs.Matcher.{some_here, some_split}
use Rattle.shellword.specs.Matcher.{some_rest, matching}
use Rattle.shell_case.specs.Parts.{is_single, takes, fits, fits_whole, fits_end, IsFirstPlace}

-- two truths that follow from each other
pub same_truth : (p q : Bool) → (p ≡ true → q ≡ true) → (q ≡ true → p ≡ true) → p ≡ q
same_truth true q there back = sym (there refl)
same_truth false true there back = back refl
same_truth false false there back = refl

-- no piece is a star
abbrev pub IsGroup : List Piece → Type 0
IsGroup pieces = list_all is_single pieces ≡ true

-- ---- some rest of a text

some_more : (test : List ℕ → Bool) (front rest : List ℕ) → some_rest test rest ≡ true → some_rest test (front ++ rest) ≡ true
some_more test [] rest h = h
some_more test (b ∷ front) rest h = or_right (test (b ∷ (front ++ rest))) (some_rest test (front ++ rest)) (some_more test front rest h)

drop_whole : (front rest : List ℕ) → drop (length front) (front ++ rest) ≡ rest
drop_whole [] rest = refl
drop_whole (b ∷ front) rest = drop_whole front rest

pub drop_both : (m n : ℕ) (xs : List ℕ) → drop m (drop n xs) ≡ drop n (drop m xs)
drop_both m n xs =
    let e : n + m ≡ m + n = omega arith in
    drop-drop m n xs ∙ ap (λ (k : ℕ). drop k xs) e ∙ sym (drop-drop n m xs)

-- ---- pieces at a front

pub fits_len : (ps : List Piece) (text : List ℕ) → fits ps text ≡ true → length ps ≤ length text
fits_len [] text h = omega arith
fits_len (p ∷ ps) [] h = absurd cc
fits_len (p ∷ ps) (b ∷ bs) h = omega (arith, fits_len ps bs (and_parts (takes p b) (fits ps bs) h).1)

fits_short_none : (i : ℕ) (ps : List Piece) → i < length ps → fits (drop i ps) [] ≡ false
fits_short_none i [] lt = absurd (omega arith)
fits_short_none zero (p ∷ ps) lt = refl
fits_short_none (suc i) (p ∷ ps) lt = fits_short_none i ps (omega (arith, lt))

pub front_fits : (ps qs : List Piece) (text : List ℕ) → IsGroup ps → matching (ps ++ qs) text ≡ (fits ps text && matching qs (drop (length ps) text))
unfolding matching
front_fits [] qs text h = refl
front_fits (AnyBytes ∷ ps) qs text h = absurd cc
front_fits (OneByte ∷ ps) qs [] h = refl
front_fits (OneByte ∷ ps) qs (b ∷ bs) h = front_fits ps qs bs h
front_fits (Byte c ∷ ps) qs [] h = refl
front_fits (Byte c ∷ ps) qs (b ∷ bs) h =
    ap (λ (p : Bool). (b == c) && p) (front_fits ps qs bs h) ∙ sym (and_assoc (b == c) (fits ps bs) (matching qs (drop (length ps) bs)))

pub fits_short : (i : ℕ) (ps : List Piece) (text : List ℕ) → i < length ps → length text ≤ i → fits (drop i ps) (drop i text) ≡ false
fits_short zero [] text lt le = absurd (omega arith)
fits_short zero (p ∷ ps) [] lt le = refl
fits_short zero (p ∷ ps) (b ∷ bs) lt le = absurd (omega arith)
fits_short (suc i) [] text lt le = absurd (omega arith)
fits_short (suc i) (p ∷ ps) [] lt le = fits_short_none i ps (omega (arith, lt))
fits_short (suc i) (p ∷ ps) (b ∷ bs) lt le = fits_short i ps bs (omega (arith, lt)) (omega (arith, le))

-- ---- a pattern without a star

none_left : (text : List ℕ) → matching [] text ≡ true → text ≡ []
unfolding matching
none_left [] h = refl
none_left (b ∷ bs) h = absurd cc

whole_there : (ps : List Piece) (text : List ℕ) → IsGroup ps → matching ps text ≡ true → (length text ≡ length ps) × (fits ps text ≡ true)
whole_there ps text g h =
    let p = and_parts (fits ps text) (matching [] (drop (length ps) text)) (sym (front_fits ps [] text g) ∙ ap (λ (qs : List Piece). matching qs text) (append-nil ps) ∙ h) in
    let e = none_left (drop (length ps) text) p.1 in
    (omega (arith, ap length e, length-drop (length ps) text, fits_len ps text p.0), p.0)

whole_back : (ps : List Piece) (text : List ℕ) → IsGroup ps → length text ≡ length ps → fits ps text ≡ true → matching ps text ≡ true
unfolding matching
whole_back ps text g n f =
    sym (ap (λ (qs : List Piece). matching qs text) (append-nil ps)) ∙ front_fits ps [] text g
    ∙ ap (λ (p : Bool). p && matching [] (drop (length ps) text)) f ∙ ap (matching []) (drop_all (length ps) text (omega (arith, n)))

pub only_group : (ps : List Piece) (text : List ℕ) → IsGroup ps → fits_whole ps text ≡ matching ps text
only_group ps text g = same_truth _ _
    (λ h. let p = and_parts (length text == length ps) (fits ps text) h in whole_back ps text g (eqb-true (length text) (length ps) p.0) p.1)
    (λ h. let w = whole_there ps text g h in rw (eq-eqb (length text) (length ps) w.0, w.1) refl)

-- ---- the last group

last_there : (ps : List Piece) (text : List ℕ) → IsGroup ps → some_rest (matching ps) text ≡ true → fits_end ps text ≡ true
last_there ps text g h =
    let s = some_split (matching ps) text h in
    let w = whole_there ps s.1 g s.3 in
    let long : length text ≡ length s.0 + length s.1 = ap length s.2 ∙ length-append s.0 s.1 in
    let place : length text - length ps ≡ length s.0 = omega (arith, long, w.0) in
    let rest : drop (length text - length ps) text ≡ s.1 = ap (λ (k : ℕ). drop k text) place ∙ ap (drop (length s.0)) s.2 ∙ drop_whole s.0 s.1 in
    rw (le-leb (length ps) (length text) (omega (arith, long, w.0)), rest, w.1) refl

last_back : (ps : List Piece) (text : List ℕ) → IsGroup ps → fits_end ps text ≡ true → some_rest (matching ps) text ≡ true
last_back ps text g h =
    let k = length text - length ps in
    let p = and_parts (nat_le (length ps) (length text)) (fits ps (drop k text)) h in
    let le : length ps ≤ length text = leb-true (length ps) (length text) p.0 in
    let m : matching ps (drop k text) ≡ true = whole_back ps (drop k text) g (omega (arith, le, length-drop k text)) p.1 in
    ap (some_rest (matching ps)) (sym (take-append-drop k text)) ∙ some_more (matching ps) (take k text) (drop k text) (some_here (matching ps) (drop k text) m)

pub last_group : (ps : List Piece) (text : List ℕ) → IsGroup ps → fits_end ps text ≡ some_rest (matching ps) text
last_group ps text g = same_truth _ _ (last_back ps text g) (last_there ps text g)

-- ---- the first group

pub not_begun : (ps qs : List Piece) (text : List ℕ) → IsGroup ps → fits ps text ≡ false → matching (ps ++ qs) text ≡ false
not_begun ps qs text g e = front_fits ps qs text g ∙ ap (λ (p : Bool). p && matching qs (drop (length ps) text)) e

pub begun : (ps rest : List Piece) (text : List ℕ) → IsGroup ps → fits ps text ≡ true → matching (ps ++ AnyBytes ∷ rest) text ≡ some_rest (matching rest) (drop (length ps) text)
unfolding matching
begun ps rest text g e = front_fits ps (AnyBytes ∷ rest) text g ∙ ap (λ (p : Bool). p && matching (AnyBytes ∷ rest) (drop (length ps) text)) e

-- ---- a group between two stars

pub missing_group : (ps qs : List Piece) (text : List ℕ) → IsGroup ps → IsFirstPlace ps text None → some_rest (matching (ps ++ qs)) text ≡ false
missing_group ps qs [] g none = not_begun ps qs [] g (none 0 (omega arith))
missing_group ps qs (b ∷ bs) g none =
    ap (λ (p : Bool). p || some_rest (matching (ps ++ qs)) bs) (not_begun ps qs (b ∷ bs) g (none 0 (omega arith)))
    ∙ missing_group ps qs bs g (λ k le. none (suc k) (omega (arith, le)))

-- If the group and a star match somewhere, then the rest matches somewhere after the group's first place.
somewhere : (ps rest : List Piece) (text : List ℕ) → IsGroup ps → some_rest (matching (ps ++ AnyBytes ∷ rest)) text ≡ true → some_rest (matching rest) (drop (length ps) text) ≡ true
unfolding matching
somewhere ps rest text g h =
    let s = some_split (matching (ps ++ AnyBytes ∷ rest)) text h in
    let n = length ps in
    let m = length s.0 in
    let p = and_parts (fits ps s.1) (some_rest (matching rest) (drop n s.1)) (sym (front_fits ps (AnyBytes ∷ rest) s.1 g) ∙ s.3) in
    let e : drop n s.1 ≡ drop m (drop n text) =
    ap (drop n) (sym (drop_whole s.0 s.1)) ∙ ap (λ (t : List ℕ). drop n (drop m t)) (sym s.2) ∙ drop_both n m text in
    let later : some_rest (matching rest) (drop m (drop n text)) ≡ true = ap (some_rest (matching rest)) (sym e) ∙ p.1 in
    ap (some_rest (matching rest)) (sym (take-append-drop m (drop n text))) ∙ some_more (matching rest) (take m (drop n text)) (drop m (drop n text)) later

here_first : (ps rest : List Piece) (text : List ℕ) → IsGroup ps → fits ps text ≡ true
    → some_rest (matching (ps ++ AnyBytes ∷ rest)) text ≡ some_rest (matching rest) (drop (length ps) text)
here_first ps rest text g f = same_truth _ _ (somewhere ps rest text g)
    (λ h. some_here (matching (ps ++ AnyBytes ∷ rest)) text (begun ps rest text g f ∙ h))

-- Of all places where the group fits, the first leaves the most of the text.
pub found_group : (ps rest : List Piece) (text : List ℕ) (k : ℕ) → IsGroup ps → IsFirstPlace ps text (Some k)
    → some_rest (matching (ps ++ AnyBytes ∷ rest)) text ≡ some_rest (matching rest) (drop (k + length ps) text)
found_group ps rest text zero g found =
    let e : length ps ≡ 0 + length ps = omega arith in
    here_first ps rest text g found.1 ∙ ap (λ (n : ℕ). some_rest (matching rest) (drop n text)) e
found_group ps rest [] (suc k) g found = absurd (omega (arith, found.0))
found_group ps rest (b ∷ bs) (suc k) g found =
    let e : suc (k + length ps) ≡ suc k + length ps = omega arith in
    ap (λ (p : Bool). p || some_rest (matching (ps ++ AnyBytes ∷ rest)) bs) (not_begun ps (AnyBytes ∷ rest) (b ∷ bs) g (found.2 0 (omega arith)))
    ∙ found_group ps rest bs k g (omega (arith, found.0), found.1, λ j lt. found.2 (suc j) (omega (arith, lt)))
    ∙ ap (λ (n : ℕ). some_rest (matching rest) (drop n (b ∷ bs))) e
