-- The trims of a text, read from its pieces, are those of its bytes.
use Rattle.std.proofs.Common.{◌≡◌, ◌≢◌, ℕ, zero, suc, ◌+◌, ◌<◌, ◌≤◌, ◌==◌, ◌&&◌, Bool, true, false, cond, List, [], ◌∷◌, ◌++◌, length, take, drop, slice_index, reverse, refl, sym, ap, ◌∙◌, arith, ⊎_elim, length-drop, length-take-le}
use Rattle.std.proofs.lemmas.Bool.{cases_Bool, cases_eq, cond_both, cond-true, cond-false}
use Rattle.std.proofs.lemmas.Bool.Decides.{nat_tests}
use Rattle.std.proofs.lemmas.List.{length-reverse, reverse-append}
use Rattle.bstr.specs.Trim.{kept_start, kept_end, trim_start_by, trim_end_by}
use Rattle.bstr.specs.Utf8.{decoded, pieces, spans_from}
use Rattle.bstr.proofs.lemmas.PieceLemmas.{piece-bounds, spans-first, spans-nil}
use Rattle.bstr.proofs.lemmas.TrimLemmas.{kept-skip, kept-stop, kept-nil, kept_end-nil}
use Rattle.text_cut.specs.Cuts.{is_blank, front_trimmed, trimmed}
use Rattle.text_cut.proofs.FirstPiece.{Passed, Kept, first-piece}

-- the number of bytes before the first that the test doesn't accept
abbrev pub leading : (ℕ → Bool) → List ℕ → ℕ
leading test [] = 0
leading test (b ∷ bs) = cond (test b) (suc (leading test bs)) 0

-- the number of bytes without those at the end that the test accepts
abbrev pub ending : (ℕ → Bool) → List ℕ → ℕ
ending test [] = 0
ending test (b ∷ bs) = cond (test b && ending test bs == 0) 0 (suc (ending test bs))

module _ (test : ℕ → Bool) where
  leading-passed : (bs : List ℕ) (n : ℕ) → n ≡ 1 → 0 < length bs → test (slice_index bs 0) ≡ true → leading test bs ≡ n + leading test (drop n bs)
  leading-passed [] n one some hit = absurd (omega arith)
  leading-passed (b ∷ bs) n one some hit =
      let step : leading test (b ∷ bs) ≡ 1 + leading test bs = cond-true _ _ _ hit ∙ omega arith in
      step ∙ ap (λ k. k + leading test (drop k (b ∷ bs))) (sym one)

  leading-kept : (bs : List ℕ) → 0 < length bs → test (slice_index bs 0) ≡ false → leading test bs ≡ 0
  leading-kept [] some miss = absurd (omega arith)
  leading-kept (b ∷ bs) some miss = cond-false _ _ _ miss

  ending-kept : (n : ℕ) (bs : List ℕ) → n ≤ length bs → ((k : ℕ) → k < n → test (slice_index bs k) ≡ false) → ending test bs ≡ n + ending test (drop n bs)
  ending-kept zero bs le none = omega arith
  ending-kept (suc n) [] le none = absurd (omega arith)
  ending-kept (suc n) (b ∷ bs) le none =
      let first : test b ≡ false = none 0 (omega arith) in
      let here : ending test (b ∷ bs) ≡ suc (ending test bs) = ap (λ t. cond (t && ending test bs == 0) 0 (suc (ending test bs))) first in
      let later = ending-kept n bs (omega arith) (λ k below. none (suc k) (omega arith)) in
      omega arith

  -- the end after a byte that the test accepts
  ending-passed : (bs : List ℕ) (n off end : ℕ) → n ≡ 1 → 0 < length bs → test (slice_index bs 0) ≡ true
      → cond (ending test (drop n bs) == 0) end (off + n + ending test (drop n bs)) ≡ cond (ending test bs == 0) end (off + ending test bs)
  ending-passed [] n off end one some hit = absurd (omega arith)
  ending-passed (b ∷ bs) n off end one some hit =
      let k = ending test bs in
      let here : ending test (b ∷ bs) ≡ cond (k == 0) 0 (suc k) = ap (λ t. cond (t && k == 0) 0 (suc k)) hit in
      let same : cond (k == 0) end (off + 1 + k) ≡ cond (cond (k == 0) 0 (suc k) == 0) end (off + cond (k == 0) 0 (suc k)) = by_zero k off end in
      ap (λ j. cond (ending test (drop j (b ∷ bs)) == 0) end (off + j + ending test (drop j (b ∷ bs)))) one
      ∙ same ∙ sym (ap (λ j. cond (j == 0) end (off + j)) here)
    where
      by_zero : (k off end : ℕ) → cond (k == 0) end (off + 1 + k) ≡ cond (cond (k == 0) 0 (suc k) == 0) end (off + cond (k == 0) 0 (suc k))
      by_zero k off end = grind (arith, nat_tests)

module _ (test : ℕ → Bool) (end : ℕ) (s : ℕ × ℕ × ℕ) (ss : List (ℕ × ℕ × ℕ)) where
  end-passed : test s.2 ≡ true → kept_end test end (s ∷ ss) ≡ kept_end test end ss
  unfolding kept_end
  end-passed hit = ap (λ e. kept_end test e ss) (cond-true _ _ _ hit)

  end-kept : test s.2 ≡ false → kept_end test end (s ∷ ss) ≡ kept_end test s.1 ss
  unfolding kept_end
  end-kept miss = ap (λ e. kept_end test e ss) (cond-false _ _ _ miss)

module _ (test : ℕ → Bool) (low : (c : ℕ) → 128 ≤ c → test c ≡ false) where
  start-from : (fuel off : ℕ) (bs : List ℕ) → length bs ≤ fuel → kept_start test (off + length bs) (spans_from off (pieces bs)) ≡ off + leading test bs
  start-from fuel off [] le = ap (kept_start test (off + 0)) (spans-nil [] off refl) ∙ kept-nil test (off + 0)
  start-from zero off (b ∷ bs) le = absurd (omega arith)
  start-from (suc fuel) off (b ∷ bs) le =
      let text = b ∷ bs in
      let size = (decoded text).size in
      let bounds = piece-bounds text (omega arith) in
      let left = length-drop size text in
      let later = start-from fuel (off + size) (drop size text) (omega arith) in
      let end : off + length text ≡ off + size + length (drop size text) = omega arith in
      let spans = ap (kept_start test (off + length text)) (spans-first text off (omega arith)) in
      ⊎_elim
      (λ (piece : Passed test low text).
      let step = leading-passed test text size piece.1 (omega arith) piece.2 in
      spans ∙ kept-skip test _ _ _ piece.0 ∙ ap (λ n. kept_start test n (spans_from (off + size) (pieces (drop size text)))) end ∙ later ∙ omega arith)
      (λ (piece : Kept test low text).
      let none = leading-kept test text (omega arith) (piece.1 0 (omega arith)) in
      spans ∙ kept-stop test _ _ _ piece.0 ∙ omega arith)
      (first-piece test low text (omega arith))

  end-from : (fuel off end : ℕ) (bs : List ℕ) → length bs ≤ fuel
      → kept_end test end (spans_from off (pieces bs)) ≡ cond (ending test bs == 0) end (off + ending test bs)
  end-from fuel off end [] le = ap (kept_end test end) (spans-nil [] off refl) ∙ kept_end-nil test end
  end-from zero off end (b ∷ bs) le = absurd (omega arith)
  end-from (suc fuel) off end (b ∷ bs) le =
      let text = b ∷ bs in
      let size = (decoded text).size in
      let bounds = piece-bounds text (omega arith) in
      let left = length-drop size text in
      let spans = ap (kept_end test end) (spans-first text off (omega arith)) in
      ⊎_elim
      (λ (piece : Passed test low text).
      spans ∙ end-passed test end _ _ piece.0 ∙ end-from fuel (off + size) end (drop size text) (omega arith)
      ∙ ending-passed test text size off end piece.1 (omega arith) piece.2)
      (λ (piece : Kept test low text).
      let more = ending-kept test size text bounds.2 piece.1 in
      spans ∙ end-kept test end _ _ piece.0 ∙ end-from fuel (off + size) (off + size) (drop size text) (omega arith)
      ∙ joined (ending test (drop size text)) (ending test text) size off end (omega arith) more)
      (first-piece test low text (omega arith))
    where
      joined : (k n size off end : ℕ) → 0 < size → n ≡ size + k → cond (k == 0) (off + size) (off + size + k) ≡ cond (n == 0) end (off + n)
      joined k n size off end some is = grind (arith, nat_tests)

pub is_blank-high : (c : ℕ) → 128 ≤ c → is_blank c ≡ false
is_blank-high c high = grind (arith, nat_tests)

front_trimmed-drop : (bs : List ℕ) → drop (leading is_blank bs) bs ≡ front_trimmed bs
unfolding front_trimmed
front_trimmed-drop [] = refl
front_trimmed-drop (b ∷ bs) = ⊎_elim
    (λ (blank : is_blank b ≡ true). ap (λ n. drop n (b ∷ bs)) (cond-true _ _ _ blank) ∙ front_trimmed-drop bs ∙ sym (cond-true _ _ _ blank))
    (λ (other : is_blank b ≡ false). ap (λ n. drop n (b ∷ bs)) (cond-false _ _ _ other) ∙ sym (cond-false _ _ _ other))
    (cases_Bool (is_blank b))

pub trim_start_by-blank : (bs : List ℕ) → trim_start_by is_blank bs ≡ front_trimmed bs
trim_start_by-blank bs =
    let whole : 0 + length bs ≡ length bs = omega arith in
    let none : 0 + leading is_blank bs ≡ leading is_blank bs = omega arith in
    let at = ap (λ n. kept_start is_blank n (spans_from 0 (pieces bs))) (sym whole) ∙ start-from is_blank is_blank-high (length bs) 0 bs (omega arith) ∙ none in
    ap (λ n. drop n bs) at ∙ front_trimmed-drop bs

front_trimmed-none : (xs ys : List ℕ) → length (front_trimmed xs) ≡ 0 → front_trimmed (xs ++ ys) ≡ front_trimmed ys
unfolding front_trimmed
front_trimmed-none [] ys none = refl
front_trimmed-none (x ∷ xs) ys none = ⊎_elim
    (λ (blank : is_blank x ≡ true). cond-true _ _ _ blank ∙ front_trimmed-none xs ys (ap length (sym (cond-true _ _ _ blank)) ∙ none))
    (λ (other : is_blank x ≡ false).
    let same : length (front_trimmed (x ∷ xs)) ≡ suc (length xs) = ap length (cond-false _ _ _ other) in
    absurd (omega arith))
    (cases_Bool (is_blank x))

front_trimmed-some : (xs ys : List ℕ) → 0 < length (front_trimmed xs) → front_trimmed (xs ++ ys) ≡ front_trimmed xs ++ ys
unfolding front_trimmed
front_trimmed-some [] ys some = absurd (omega arith)
front_trimmed-some (x ∷ xs) ys some = ⊎_elim
    (λ (blank : is_blank x ≡ true).
    let same : front_trimmed (x ∷ xs) ≡ front_trimmed xs = cond-true _ _ _ blank in
    cond-true _ _ _ blank ∙ front_trimmed-some xs ys (omega (arith, ap length same)) ∙ ap (λ t. t ++ ys) (sym same))
    (λ (other : is_blank x ≡ false). cond-false _ _ _ other ∙ ap (λ t. t ++ ys) (sym (cond-false _ _ _ other)))
    (cases_Bool (is_blank x))

front_trimmed-one : (b : ℕ) → front_trimmed (b ∷ []) ≡ cond (is_blank b) [] (b ∷ [])
unfolding front_trimmed
front_trimmed-one b = refl

front_trimmed-nil : front_trimmed [] ≡ []
unfolding front_trimmed
front_trimmed-nil = refl

ending-le : (bs : List ℕ) → ending is_blank bs ≤ length bs
ending-le [] = omega arith
ending-le (b ∷ bs) = cond_both (is_blank b && ending is_blank bs == 0) 0 (suc (ending is_blank bs)) (λ n. n ≤ suc (length bs))
    (λ _. omega arith) (λ _. omega (arith, ending-le bs))

-- with one byte more in front
module _ (b : ℕ) (bs : List ℕ) (before : take (ending is_blank bs) bs ≡ reverse (front_trimmed (reverse bs))) where
  back_length : length (front_trimmed (reverse bs)) ≡ ending is_blank bs
  back_length = sym (length-reverse (front_trimmed (reverse bs))) ∙ ap length (sym before) ∙ length-take-le (ending is_blank bs) bs (ending-le bs)

  last_first : reverse (b ∷ bs) ≡ reverse bs ++ b ∷ []
  last_first = reverse-append (b ∷ []) bs

  back-none : ending is_blank bs ≡ 0 → take (ending is_blank (b ∷ bs)) (b ∷ bs) ≡ reverse (front_trimmed (reverse (b ∷ bs)))
  back-none none =
      let zero_test : ending is_blank bs == 0 ≡ true = grind (arith, nat_tests) in
      let back : front_trimmed (reverse (b ∷ bs)) ≡ cond (is_blank b) [] (b ∷ []) =
      ap front_trimmed last_first ∙ front_trimmed-none (reverse bs) (b ∷ []) (back_length ∙ none) ∙ front_trimmed-one b in
      ⊎_elim
      (λ (blank : is_blank b ≡ true).
      let gone : ending is_blank (b ∷ bs) ≡ 0 = grind (arith, nat_tests) in
      ap (λ n. take n (b ∷ bs)) gone ∙ sym (ap reverse (back ∙ cond-true _ _ _ blank)))
      (λ (other : is_blank b ≡ false).
      let one : ending is_blank (b ∷ bs) ≡ 1 = grind (arith, nat_tests) in
      ap (λ n. take n (b ∷ bs)) one ∙ sym (ap reverse (back ∙ cond-false _ _ _ other)))
      (cases_Bool (is_blank b))

  back-some : 0 < ending is_blank bs → take (ending is_blank (b ∷ bs)) (b ∷ bs) ≡ reverse (front_trimmed (reverse (b ∷ bs)))
  back-some some =
      let more : ending is_blank (b ∷ bs) ≡ suc (ending is_blank bs) = grind (arith, nat_tests) in
      let back : front_trimmed (reverse (b ∷ bs)) ≡ front_trimmed (reverse bs) ++ b ∷ [] =
      ap front_trimmed last_first ∙ front_trimmed-some (reverse bs) (b ∷ []) (omega (arith, back_length)) in
      ap (λ n. take n (b ∷ bs)) more ∙ ap (λ t. b ∷ t) before
      ∙ sym (ap reverse back ∙ reverse-append (front_trimmed (reverse bs)) (b ∷ []))

back_trimmed-take : (bs : List ℕ) → take (ending is_blank bs) bs ≡ reverse (front_trimmed (reverse bs))
back_trimmed-take [] = sym (ap reverse front_trimmed-nil)
back_trimmed-take (b ∷ bs) =
    ⊎_elim (back-none b bs (back_trimmed-take bs)) (λ (other : ending is_blank bs ≢ 0). back-some b bs (back_trimmed-take bs) (omega arith)) (cases_eq (ending is_blank bs) 0)

trim_end_by-blank : (bs : List ℕ) → trim_end_by is_blank bs ≡ reverse (front_trimmed (reverse bs))
trim_end_by-blank bs =
    let none : cond (ending is_blank bs == 0) 0 (0 + ending is_blank bs) ≡ ending is_blank bs = grind (arith, nat_tests) in
    ap (λ n. take n bs) (end-from is_blank is_blank-high (length bs) 0 0 bs (omega arith) ∙ none) ∙ back_trimmed-take bs

-- the result of `trim_with`
pub trim_by-blank : (bs : List ℕ) → trim_end_by is_blank (trim_start_by is_blank bs) ≡ trimmed bs
unfolding trimmed
trim_by-blank bs = ap (trim_end_by is_blank) (trim_start_by-blank bs) ∙ trim_end_by-blank (front_trimmed bs)
