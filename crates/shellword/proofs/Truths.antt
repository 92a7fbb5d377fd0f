-- The truth of a test, element by element.
use Rattle.std.proofs.Common.{◌≡◌, ℕ, ◌+◌, ◌<◌, Bool, List, [], ◌∷◌, ◌++◌, length, get_or, take, refl, sym, ap, ◌∙◌}
use Rattle.std.proofs.lemmas.List.{take_more}
use Rattle.shellword.specs.declared.element.Element.{Element}
use Rattle.shellword.specs.declared.token.Joint.{Joint}
use Rattle.shellword.specs.Truth.{Joined, single, joined, element_truth, joint_truth, truth}
use Rattle.shellword.specs.Nested.{nested, nested_push}

pub truth_single : (e : Element) (vars : List (List ℕ × List ℕ)) → truth (single e) vars ≡ element_truth e vars
unfolding truth
truth_single e vars = refl

truth_joined : (test : Joined) (joint : Joint) (e : Element) (vars : List (List ℕ × List ℕ)) → truth (joined test joint e) vars ≡ joint_truth (truth test vars) joint (element_truth e vars)
unfolding truth
truth_joined test joint e vars = refl

pub truth_next : (test : Joined) (rest : List (Joint × Element)) (i : ℕ) (next : Joint × Element) (vars : List (List ℕ × List ℕ)) (before right : Bool) → i < length rest → next ≡ get_or rest i next
    → before ≡ truth (nested test (take i rest)) vars → right ≡ element_truth next.1 vars
    → joint_truth before next.0 right ≡ truth (nested test (take (i + 1) rest)) vars
truth_next test rest i next vars before right lt is so_far e =
    sym (ap (λ (xs : List (Joint × Element)). truth (nested test xs) vars) (take_more rest i next lt ∙ ap (λ (x : Joint × Element). take i rest ++ x ∷ []) (sym is))
    ∙ ap (λ (t : Joined). truth t vars) (nested_push test (take i rest) next) ∙ truth_joined (nested test (take i rest)) next.0 next.1 vars
    ∙ rw (so_far, e) refl)
