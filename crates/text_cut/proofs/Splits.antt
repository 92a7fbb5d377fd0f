-- The text between the matches of a needle of one byte is the parts at that byte.
use Rattle.std.proofs.Common.{◌≡◌, ℕ, zero, suc, ◌+◌, ◌-◌, ◌<◌, ◌≤◌, ◌==◌, ◌&&◌, nat_le, Bool, true, false, List, [], ◌∷◌, length, take, drop, slice_index, refl, sym, ap, ◌∙◌, arith, ⊎_elim, length-drop, take_all, drop-drop}
use Rattle.std.specs.Str.{bytes_eq}
use Rattle.std.proofs.lemmas.Bool.{cases_Bool, cases_lt, cond-true, cond-false}
use Rattle.std.proofs.lemmas.Bool.Decides.{nat_tests}
use Rattle.std.proofs.lemmas.List.{drop_all}
use Rattle.std.proofs.Math.Seq.{drop-cons}
use Rattle.bstr.specs.Find.{occurs_at, matches_from, matches}
use Rattle.bstr.specs.Text.{part, split_at}
use Rattle.bstr.proofs.lemmas.MatchListLemmas.{split_at-next, split_at-end}
use Rattle.text_cut.specs.Cuts.{parts_by, parts}
use Rattle.text_cut.proofs.PartsLists.{onto, onto-empty, onto-append, part-more, part-none, parts_by-passed, parts_by-kept, parts_by-nil}

and-true : (b : Bool) → b && true ≡ b
and-true true = refl
and-true false = refl

module _ (hay : List ℕ) (separator : ℕ) where
  abbrev needle : List ℕ
  needle = separator ∷ []

  abbrev separates : ℕ → Bool
  separates b = b == separator

  abbrev matches_at : ℕ → ℕ → List ℕ
  matches_at i n = matches_from hay needle 0 i n

  found : (i n : ℕ) → occurs_at hay needle i ≡ true → matches_at i (suc n) ≡ i ∷ matches_at (i + 1) n
  unfolding matches_from
  found i n hit = cond-true _ _ _ hit

  missed : (i n : ℕ) → occurs_at hay needle i ≡ false → matches_at i (suc n) ≡ matches_at (i + 1) n
  unfolding matches_from
  missed i n miss = cond-false _ _ _ miss

  none_left : (i : ℕ) → matches_at i 0 ≡ []
  unfolding matches_from
  none_left i = refl

  -- the needle occurs if and only if the byte is the separator
  occurs-inside : (i : ℕ) → i < length hay → occurs_at hay needle i ≡ separates (slice_index hay i)
  occurs-inside i inside =
      let fits : nat_le (i + 1) (length hay) ≡ true = grind (arith, nat_tests) in
      ap (λ t. t && bytes_eq (take 1 (drop i hay)) needle) fits ∙ ap (λ t. bytes_eq (take 1 t) needle) (drop-cons hay i 0 inside) ∙ and-true (separates (slice_index hay i))

  at-front : (i : ℕ) → i < length hay → slice_index (drop i hay) 0 ≡ slice_index hay i
  at-front i inside = ap (λ t. slice_index t 0) (drop-cons hay i 0 inside)

  occurs-past : (i : ℕ) → length hay ≤ i → occurs_at hay needle i ≡ false
  occurs-past i past =
      let short : nat_le (i + 1) (length hay) ≡ false = grind (arith, nat_tests) in
      ap (λ t. t && bytes_eq (take 1 (drop i hay)) needle) short

  at-end : (last i : ℕ) → last ≤ i → length hay ≤ i → split_at hay 1 last [] ≡ onto (part last i hay) (parts_by separates (drop i hay))
  at-end last i le past =
      let left = length-drop last hay in
      let whole : part last i hay ≡ drop last hay = take_all (i - last) (drop last hay) (omega arith) in
      let parts_end : parts_by separates (drop i hay) ≡ [] ∷ [] = ap (parts_by separates) (drop_all i hay past) ∙ parts_by-nil separates in
      split_at-end hay 1 last ∙ ap (λ t. t ∷ []) (sym whole) ∙ sym (onto-empty (part last i hay) []) ∙ ap (onto (part last i hay)) (sym parts_end)

  -- from offset i on, if the part begins at `last`
  abbrev SplitFrom : ℕ → ℕ → Type 0
  SplitFrom n i = (last : ℕ) → last ≤ i → split_at hay 1 last (matches_at i n) ≡ onto (part last i hay) (parts_by separates (drop i hay))

  at-separator : (n i : ℕ) → i < length hay → separates (slice_index hay i) ≡ true → SplitFrom n (i + 1) → SplitFrom (suc n) i
  at-separator n i inside hit later last le =
      let left = length-drop i hay in
      let cut : parts_by separates (drop i hay) ≡ [] ∷ parts_by separates (drop (i + 1) hay) =
      parts_by-passed separates (drop i hay) 1 refl (omega arith) (ap separates (at-front i inside) ∙ hit) ∙ ap (λ t. [] ∷ parts_by separates t) (drop-drop 1 i hay) in
      ap (split_at hay 1 last) (found i n (occurs-inside i inside ∙ hit)) ∙ split_at-next hay 1 last i (matches_at (i + 1) n)
      ∙ ap (λ t. part last i hay ∷ t) (later (i + 1) (omega arith) ∙ ap (λ t. onto t (parts_by separates (drop (i + 1) hay))) (part-none (i + 1) hay))
      ∙ sym (ap (onto (part last i hay)) cut ∙ onto-empty (part last i hay) _)

  at-other : (n i : ℕ) → i < length hay → separates (slice_index hay i) ≡ false → SplitFrom n (i + 1) → SplitFrom (suc n) i
  at-other n i inside miss later last le =
      let left = length-drop i hay in
      let front : (k : ℕ) → k < 1 → separates (slice_index (drop i hay) k) ≡ false = λ k below.
      let first : k ≡ 0 = omega arith in
      ap (λ j. separates (slice_index (drop i hay) j)) first ∙ ap separates (at-front i inside) ∙ miss in
      let on : parts_by separates (drop i hay) ≡ onto (take 1 (drop i hay)) (parts_by separates (drop (i + 1) hay)) =
      parts_by-kept separates 1 (drop i hay) (omega arith) front ∙ ap (λ t. onto (take 1 (drop i hay)) (parts_by separates t)) (drop-drop 1 i hay) in
      ap (split_at hay 1 last) (missed i n (occurs-inside i inside ∙ miss)) ∙ later last (omega arith)
      ∙ ap (λ t. onto t (parts_by separates (drop (i + 1) hay))) (part-more last i 1 hay le)
      ∙ onto-append (part last i hay) (take 1 (drop i hay)) _ ∙ ap (onto (part last i hay)) (sym on)

  split-from : (n i : ℕ) → n + i ≡ length hay + 1 → SplitFrom n i
  split-from zero i total = λ last le. ap (split_at hay 1 last) (none_left i) ∙ at-end last i le (omega arith)
  split-from (suc n) i total =
      ⊎_elim
      (λ (inside : i < length hay).
      let later = split-from n (i + 1) (omega arith) in
      ⊎_elim (λ hit. at-separator n i inside hit later) (λ miss. at-other n i inside miss later) (cases_Bool (separates (slice_index hay i))))
      (λ (past : length hay ≤ i). λ last le.
      let over : n ≡ 0 = omega arith in
      ap (split_at hay 1 last) (missed i n (occurs-past i past) ∙ ap (matches_at (i + 1)) over ∙ none_left (i + 1)) ∙ at-end last i le past)
      (cases_lt i (length hay))

  -- the result of `split_str`
  pub split_at-parts : split_at hay 1 0 (matches hay needle 0) ≡ parts separator hay
  unfolding parts
  split_at-parts =
      let all : length hay + 1 - 0 ≡ length hay + 1 = omega arith in
      ap (λ n. split_at hay 1 0 (matches_at 0 n)) all ∙ split-from (length hay + 1) 0 (omega arith) 0 (omega arith)
      ∙ ap (λ t. onto t (parts_by separates hay)) (part-none 0 hay)
