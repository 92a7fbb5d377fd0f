-- The page of differences, finding by finding.
use Rattle.std.proofs.Common.{◌≡◌, ℕ, ◌+◌, ◌<◌, ◌≤◌, List, [], ◌∷◌, ◌++◌, length, take, get_or, sym, ap, subst, ◌∙◌}
use Rattle.std.proofs.lemmas.List.{take_all, take_more}
use Rattle.lint_findings.specs.declared.finding.Finding.{Finding}
use Rattle.lint_table.specs.Differences.{is_difference}
use Rattle.std.specs.List.Sorted.{IsSorted}
use Rattle.lint_findings.specs.Order.{place_cmp}
use Rattle.lint_sources.specs.Differing.{ArePrinted, IsAdded, IsPage}
use Rattle.lint_sources.specs.Differing as specs

-- One more finding
pub one_printed : (found : List Finding) (i : ℕ) (finding : Finding) (old new : List ℕ) → i < length found → finding ≡ get_or found i finding
    → ArePrinted (take i found) old → IsAdded (is_difference finding.code) old new → ArePrinted (take (i + 1) found) new
one_printed found i finding old new within at before added =
    let same : take i found ++ finding ∷ [] ≡ take (i + 1) found = ap (λ f. take i found ++ f ∷ []) at ∙ sym (take_more found i finding within) in
    subst (λ list. ArePrinted list new) same (specs.ArePrinted.next finding new before added)

-- All of them
pub all_printed : (found : List Finding) (i : ℕ) (page : List ℕ) → length found ≤ i → ArePrinted (take i found) page → ArePrinted found page
all_printed found i page all before = subst (λ list. ArePrinted list page) (take_all i found all) before

-- The page of findings in order
pub page_of : (found : List Finding) (page : List ℕ) → IsSorted place_cmp found → ArePrinted found page → IsPage page
page_of found page sorted printed = record { found = found; sorted = sorted; printed = printed }
