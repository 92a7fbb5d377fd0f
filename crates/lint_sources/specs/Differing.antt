-- What is printed of warnings: those that something means another thing to Autoconf. All of this is own.
use Rattle.std.specs.Prelude.{◌≡◌, ℕ, Bool, true, false, List, [], ◌∷◌, ◌++◌}
use Rattle.std.specs.List.Sorted.{IsSorted}
use Rattle.lint_findings.specs.declared.finding.Finding.{Finding}
use Rattle.lint_findings.specs.Order.{place_cmp}
use Rattle.lint_table.specs.Differences as words

-- What a page became after a finding: if that is a difference, a text was added, and nothing otherwise.
abbrev pub IsAdded : Bool → List ℕ → List ℕ → Type 0
IsAdded true old new = (text : List ℕ) × (new ≡ old ++ text)
IsAdded false old new = new ≡ old

-- The page of findings: a text for each difference, in their order.
pub data ArePrinted : List Finding → List ℕ → Type 0 where
  none : ArePrinted [] []
  next : {before : List Finding} {old : List ℕ} (finding : Finding) (new : List ℕ) → ArePrinted before old → IsAdded (words.is_difference finding.code) old new → ArePrinted (before ++ finding ∷ []) new

-- A page of findings that are in order of place.
pub record IsPage (page : List ℕ) : Type 0 where
  pub found : List Finding
  pub sorted : IsSorted place_cmp found
  pub printed : ArePrinted found page
