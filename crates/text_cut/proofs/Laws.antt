-- Laws for the proofs of callers: the texts of a list item by item, and the results of each call.
use Rattle.std.proofs.Common.{◌≡◌, ℕ, zero, suc, ◌+◌, ◌<◌, ◌≤◌, ◌==◌, Bool, true, false, nat_lt, List, [], ◌∷◌, ◌++◌, length, take, map, filter, slice_index_or, Bor, All, refl, sym, ap, cond, ◌∙◌, arith}
use Rattle.std.specs.List.{onto_first, slice_split}
use Rattle.std.proofs.lemmas.Bool.{cond_both}
use Rattle.std.proofs.lemmas.Bool.Decides.{nat_tests}
use Rattle.std.proofs.lemmas.List.{take_more, map-append}
use Rattle.std.proofs.lemmas.List.Elements.{All-nil, All-cons, All-head, All-tail, All-filter}
use Rattle.text_cut.specs.Cuts.{is_blank, parts_by, parts, fields}

-- ---- a loop over the results

-- each turn of a loop over the items has one text more
pub texts-next : (items : List (Bor (List ℕ))) (i : ℕ) (none : Bor (List ℕ)) → i < length items
    → map (λ t. t.now) (take (i + 1) items) ≡ map (λ t. t.now) (take i items) ++ (slice_index_or items i none).now ∷ []
texts-next items i none inside = ap (map (λ t. t.now)) (take_more items i none inside) ∙ map-append (λ t. t.now) (take i items) (slice_index_or items i none ∷ [])

-- the text of an item is the text at its index
pub text-at : (items : List (Bor (List ℕ))) (i : ℕ) (none : Bor (List ℕ)) → i < length items
    → (slice_index_or items i none).now ≡ slice_index_or (map (λ t. t.now) items) i []
text-at [] i none inside = absurd (omega arith)
text-at (x ∷ items) zero none inside = refl
text-at (x ∷ items) (suc i) none inside = text-at items i none (omega arith)

-- such a turn takes `meaning` of the texts so far to that with one more, if `step` is the effect of one more text
pub texts-turn : {X : Type 0} (meaning : List (List ℕ) → X) (step : X → List ℕ → X)
    → ((texts : List (List ℕ)) (text : List ℕ) → meaning (texts ++ text ∷ []) ≡ step (meaning texts) text)
    → (items : List (Bor (List ℕ))) (i : ℕ) (none : Bor (List ℕ)) → i < length items → {before after : X}
    → before ≡ meaning (map (λ t. t.now) (take i items)) → after ≡ step before (slice_index_or items i none).now
    → after ≡ meaning (map (λ t. t.now) (take (i + 1) items))
texts-turn meaning step more items i none inside was turned =
    let text = (slice_index_or items i none).now in
    turned ∙ ap (λ m. step m text) was ∙ sym (ap meaning (texts-next items i none inside) ∙ more (map (λ t. t.now) (take i items)) text)

-- ---- the results of the calls

onto_first-some : (b : ℕ) (ps : List (List ℕ)) → 0 < length (onto_first b ps)
onto_first-some b [] = omega arith
onto_first-some b (part ∷ rest) = omega arith

onto_first-length : (b : ℕ) (ps : List (List ℕ)) → 0 < length ps → length (onto_first b ps) ≡ length ps
onto_first-length b [] some = absurd (omega arith)
onto_first-length b (part ∷ rest) some = refl

module _ (test : ℕ → Bool) where
  abbrev Lacks : List ℕ → Type 0
  Lacks = All (λ b. test b ≡ false)

  onto_first-lacks : (b : ℕ) (ps : List (List ℕ)) → test b ≡ false → All Lacks ps → All Lacks (onto_first b ps)
  onto_first-lacks b [] miss all = All-cons Lacks (b ∷ []) [] (All-cons (λ c. test c ≡ false) b [] miss (All-nil (λ c. test c ≡ false))) (All-nil Lacks)
  onto_first-lacks b (part ∷ rest) miss all =
      All-cons Lacks (b ∷ part) rest (All-cons (λ c. test c ≡ false) b part miss (All-head Lacks part rest all)) (All-tail Lacks part rest all)

  -- std's definition of the same parts
  pub parts_by-slice_split : (bs : List ℕ) → parts_by test bs ≡ slice_split test bs
  unfolding parts_by
  parts_by-slice_split [] = refl
  parts_by-slice_split (b ∷ bs) = ap (λ ps. cond (test b) ([] ∷ ps) (onto_first b ps)) (parts_by-slice_split bs)

  parts_by-some : (bs : List ℕ) → 0 < length (parts_by test bs)
  unfolding parts_by
  parts_by-some [] = omega arith
  parts_by-some (b ∷ bs) = cond_both (test b) ([] ∷ parts_by test bs) (onto_first b (parts_by test bs)) (λ ps. 0 < length ps)
      (λ _. omega arith) (λ _. onto_first-some b (parts_by test bs))

  parts_by-length : (bs : List ℕ) → length (parts_by test bs) ≤ length bs + 1
  unfolding parts_by
  parts_by-length [] = omega arith
  parts_by-length (b ∷ bs) = cond_both (test b) ([] ∷ parts_by test bs) (onto_first b (parts_by test bs)) (λ ps. length ps ≤ suc (length bs) + 1)
      (λ _. omega (arith, parts_by-length bs)) (λ _. omega (arith, parts_by-length bs, onto_first-length b (parts_by test bs) (parts_by-some bs)))

  parts_by-lacks : (bs : List ℕ) → All Lacks (parts_by test bs)
  unfolding parts_by
  parts_by-lacks [] = All-cons Lacks [] [] (All-nil (λ c. test c ≡ false)) (All-nil Lacks)
  parts_by-lacks (b ∷ bs) = cond_both (test b) ([] ∷ parts_by test bs) (onto_first b (parts_by test bs)) (All Lacks)
      (λ _. All-cons Lacks [] (parts_by test bs) (All-nil (λ c. test c ≡ false)) (parts_by-lacks bs))
      (λ miss. onto_first-lacks b (parts_by test bs) miss (parts_by-lacks bs))

-- there is at least one part
pub parts-some : (separator : ℕ) (text : List ℕ) → 0 < length (parts separator text)
unfolding parts
parts-some separator text = parts_by-some (λ b. b == separator) text

-- no more parts than bytes and one
pub parts-length : (separator : ℕ) (text : List ℕ) → length (parts separator text) ≤ length text + 1
unfolding parts
parts-length separator text = parts_by-length (λ b. b == separator) text

-- no part contains a separator
pub parts-lack : (separator : ℕ) (text : List ℕ) → All (All (λ b. b == separator ≡ false)) (parts separator text)
unfolding parts
parts-lack separator text = parts_by-lacks (λ b. b == separator) text

-- no field contains a blank
pub fields-lack : (text : List ℕ) → All (All (λ b. is_blank b ≡ false)) (fields text)
unfolding fields
fields-lack text = All-filter (λ part. nat_lt 0 (length part)) (All (λ b. is_blank b ≡ false)) (parts_by is_blank text) (parts_by-lacks is_blank text)

filter-some : (ps : List (List ℕ)) → All (λ part. 0 < length part) (filter (λ part. nat_lt 0 (length part)) ps)
filter-some [] = All-nil (λ part. 0 < length part)
filter-some (part ∷ rest) =
    cond_both (nat_lt 0 (length part)) (part ∷ filter (λ p. nat_lt 0 (length p)) rest) (filter (λ p. nat_lt 0 (length p)) rest) (All (λ p. 0 < length p))
    (λ some. All-cons (λ p. 0 < length p) part _ (has some) (filter-some rest)) (λ _. filter-some rest)
  where
    has : nat_lt 0 (length part) ≡ true → 0 < length part
    has some = grind (arith, nat_tests)

-- no field is empty
pub fields-some : (text : List ℕ) → All (λ field. 0 < length field) (fields text)
unfolding fields
fields-some text = filter-some (parts_by is_blank text)
