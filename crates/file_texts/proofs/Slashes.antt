-- Where the last slash of a name is.
use Rattle.std.proofs.Common.{◌≡◌, ◌≢◌, ℕ, zero, suc, ◌<◌, List, length, get_or, Option, Some, None, MatchOption, refl, sym, ap, ◌∙◌, ⊎_elim, arith, eq-eqb, ne_eqb}
use Rattle.std.proofs.lemmas.Bool.{cases_eq, cond-true, cond-false}
use Rattle.std.specs.Path.{rfind_below}
use Rattle.file_texts.specs.Names.{last_slash}

none_below : (name : List ℕ) (n : ℕ) → ((i : ℕ) → i < n → get_or name i 0 ≢ 47)
    → rfind_below 47 name n ≡ None
none_below name zero lacks = refl
none_below name (suc n) lacks = cond-false _ _ _ (ne_eqb _ 47 (lacks n (omega arith))) ∙ none_below name n (λ i l. lacks i (omega arith))

last_below : (name : List ℕ) (k n : ℕ) → k < n → get_or name k 0 ≡ 47
    → ((i : ℕ) → k < i → i < n → get_or name i 0 ≢ 47) → rfind_below 47 name n ≡ Some k
last_below name k zero within is later = absurd (omega arith)
last_below name k (suc n) within is later =
    ⊎_elim
    (λ here. cond-true _ _ _ (eq-eqb _ 47 (ap (λ j. get_or name j 0) (sym here) ∙ is)) ∙ ap (λ j. Some j) (sym here))
    (λ other. cond-false _ _ _ (ne_eqb _ 47 (later n (omega arith) (omega arith))) ∙ last_below name k n (omega arith) is (λ i a b. later i a (omega arith)))
    (cases_eq k n)

-- What a search from the end finds is the last slash.
pub last_slash_is : (name : List ℕ) (r : Option ℕ)
    → MatchOption r ((i : ℕ) → i < length name → get_or name i 0 ≢ 47) (λ k. (k < length name) × (get_or name k 0 ≡ 47) × ((i : ℕ) → k < i → i < length name → get_or name i 0 ≢ 47))
    → last_slash name ≡ r
last_slash_is name None lacks = none_below name (length name) lacks
last_slash_is name (Some k) found = last_below name k (length name) found.0 found.1 found.2
