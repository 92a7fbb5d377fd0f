-- Findings that are in the text of their file. All of this is own.
use Rattle.std.specs.Prelude.{◌≡◌, ◌≤◌, ℕ, List, length, All}
use Rattle.lint_findings.specs.declared.finding.Finding.{Finding}

-- If the finding is in this file, it is in a text of this length.
abbrev pub IsWithin : ℕ → ℕ → Finding → Type 0
IsWithin file len f = f.file ≡ file → (f.start ≤ f.end) × (f.end ≤ len)

-- If the findings that are in this file were in its text, they still are.
abbrev pub KeepsWithin : ℕ → List ℕ → List Finding → List Finding → Type 0
KeepsWithin file text old new = All (IsWithin file (length text)) old → All (IsWithin file (length text)) new
