-- Values, part by part.
use Rattle.std.proofs.Common.{◌≡◌, ℕ, ◌+◌, ◌<◌, ◌≤◌, List, [], ◌∷◌, ◌++◌, length, get_or, drop, refl, sym, ap, ◌∙◌, append_assoc}
use Rattle.std.proofs.lemmas.List.{at_drop_more, drop_all, append-nil}
use Rattle.shellword.specs.declared.part.Part.{Part}
use Rattle.shellword.specs.Value.{part_value, word_value}

word_value-cons : (part : Part) (parts : List Part) (vars : List (List ℕ × List ℕ)) → word_value (part ∷ parts) vars ≡ part_value vars part ++ word_value parts vars
unfolding word_value
word_value-cons part parts vars = refl

word_value-nil : (vars : List (List ℕ × List ℕ)) → word_value [] vars ≡ []
unfolding word_value
word_value-nil vars = refl

pub value_more : (out pushed : List ℕ) (parts : List Part) (vars : List (List ℕ × List ℕ)) (i : ℕ) (part : Part) (total : List ℕ) → i < length parts → part ≡ get_or parts i part
    → out ++ word_value (drop i parts) vars ≡ total → pushed ≡ out ++ part_value vars part → pushed ++ word_value (drop (i + 1) parts) vars ≡ total
value_more out pushed parts vars i part total lt is so_far e =
    ap (λ (t : List ℕ). t ++ word_value (drop (i + 1) parts) vars) e ∙ append_assoc out (part_value vars part) (word_value (drop (i + 1) parts) vars)
    ∙ ap (λ (p : Part). out ++ (part_value vars p ++ word_value (drop (i + 1) parts) vars)) is
    ∙ ap (λ (t : List ℕ). out ++ t) (sym (at_drop_more (λ ps. word_value ps vars) parts i part lt ∙ word_value-cons (get_or parts i part) (drop (i + 1) parts) vars)) ∙ so_far

pub value_all : (out : List ℕ) (parts : List Part) (vars : List (List ℕ × List ℕ)) (i : ℕ) (total : List ℕ) → length parts ≤ i → out ++ word_value (drop i parts) vars ≡ total → out ≡ total
value_all out parts vars i total past so_far =
    sym (ap (λ (ps : List Part). out ++ word_value ps vars) (drop_all i parts past) ∙ ap (λ (t : List ℕ). out ++ t) (word_value-nil vars) ∙ append-nil out) ∙ so_far
