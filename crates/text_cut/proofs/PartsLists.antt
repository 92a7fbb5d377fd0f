-- The parts of a text after bytes that don't separate.
use Rattle.std.proofs.Common.{◌≡◌, ℕ, zero, suc, ◌+◌, ◌-◌, ◌<◌, ◌≤◌, Bool, true, false, nat_lt, List, [], ◌∷◌, ◌++◌, length, take, drop, slice_index, filter, refl, sym, ap, ◌∙◌, arith, drop-drop}
use Rattle.std.proofs.lemmas.Bool.{cond-true, cond-false}
use Rattle.std.proofs.lemmas.Bool.Decides.{nat_tests}
use Rattle.std.proofs.lemmas.List.{append-nil}
use Rattle.std.proofs.Math.Seq.{take-add}
use Rattle.bstr.specs.Text.{part}
use Rattle.std.specs.List.{onto_first}
use Rattle.text_cut.specs.Cuts.{parts_by}

-- bytes put in front of the first part
abbrev pub onto : List ℕ → List (List ℕ) → List (List ℕ)
onto [] parts = parts
onto (b ∷ bs) parts = onto_first b (onto bs parts)

pub onto-some : (bs part : List ℕ) (rest : List (List ℕ)) → onto bs (part ∷ rest) ≡ (bs ++ part) ∷ rest
onto-some [] part rest = refl
onto-some (b ∷ bs) part rest = ap (onto_first b) (onto-some bs part rest)

-- in front of an empty part they are a part themselves
pub onto-empty : (bs : List ℕ) (rest : List (List ℕ)) → onto bs ([] ∷ rest) ≡ bs ∷ rest
onto-empty bs rest = onto-some bs [] rest ∙ ap (λ p. p ∷ rest) (append-nil bs)

pub onto-append : (bs cs : List ℕ) (parts : List (List ℕ)) → onto (bs ++ cs) parts ≡ onto bs (onto cs parts)
onto-append [] cs parts = refl
onto-append (b ∷ bs) cs parts = ap (onto_first b) (onto-append bs cs parts)

-- the bytes up to a later end
pub part-more : (from to more : ℕ) (text : List ℕ) → from ≤ to → part from (to + more) text ≡ part from to text ++ take more (drop to text)
part-more from to more text le =
    let long : to + more - from ≡ (to - from) + more = omega arith in
    let seam : from + (to - from) ≡ to = omega arith in
    ap (λ n. take n (drop from text)) long ∙ take-add (to - from) more (drop from text)
    ∙ ap (λ t. part from to text ++ take more t) (drop-drop (to - from) from text ∙ ap (λ n. drop n text) seam)

pub part-none : (at : ℕ) (text : List ℕ) → part at at text ≡ []
part-none at text =
    let none : at - at ≡ 0 = omega arith in
    ap (λ n. take n (drop at text)) none

module _ (test : ℕ → Bool) where
  -- a part ends at the first byte
  pub parts_by-passed : (bs : List ℕ) (n : ℕ) → n ≡ 1 → 0 < length bs → test (slice_index bs 0) ≡ true → parts_by test bs ≡ [] ∷ parts_by test (drop n bs)
  unfolding parts_by
  parts_by-passed [] n one some hit = absurd (omega arith)
  parts_by-passed (b ∷ bs) n one some hit = cond-true _ _ _ hit ∙ ap (λ k. [] ∷ parts_by test (drop k (b ∷ bs))) (sym one)

  -- no part ends within the first n bytes
  pub parts_by-kept : (n : ℕ) (bs : List ℕ) → n ≤ length bs → ((k : ℕ) → k < n → test (slice_index bs k) ≡ false) → parts_by test bs ≡ onto (take n bs) (parts_by test (drop n bs))
  unfolding parts_by
  parts_by-kept zero bs le none = refl
  parts_by-kept (suc n) [] le none = absurd (omega arith)
  parts_by-kept (suc n) (b ∷ bs) le none =
      cond-false _ _ _ (none 0 (omega arith)) ∙ ap (onto_first b) (parts_by-kept n bs (omega arith) (λ k below. none (suc k) (omega arith)))

  pub parts_by-nil : parts_by test [] ≡ [] ∷ []
  unfolding parts_by
  parts_by-nil = refl

-- the parts that aren't empty
abbrev pub filled : List (List ℕ) → List (List ℕ)
filled = filter (λ part. nat_lt 0 (length part))

pub filled-some : (part : List ℕ) (rest : List (List ℕ)) → 0 < length part → filled (part ∷ rest) ≡ part ∷ filled rest
filled-some part rest some =
    let yes : nat_lt 0 (length part) ≡ true = grind (arith, nat_tests) in
    cond-true _ _ _ yes
