-- How findings are shown. All of this is own.
use Rattle.std.specs.Prelude.{◌≡◌, ◌≤◌, ℕ, List, [], ◌∷◌, ◌++◌, length, take, Option, Some, None, ⊤}
use Rattle.file_disk.specs.Known.{Known}
use Rattle.lint_findings.specs.declared.finding.Finding.{Finding}
use Rattle.lint_sources.specs.Listed.{AreListed}
use Rattle.lint_sources.specs.Sheets.{name_or, sheet_at, text_or}
use Rattle.lint_sources.specs.Warned.{FindsOf}
use Rattle.lint_sources.specs.declared.reading.Linted.{Linted}
use Rattle.lint_sources.specs.declared.sheets.Sheets.{Sheets}

-- How a finding is shown in a file of a name with a text, if that is known.
abbrev pub Shows : Type 0
Shows = Finding → List ℕ → List ℕ → Option (List ℕ)

-- The text is the one that is known, or nothing is known.
abbrev pub IsText : Option (List ℕ) → List ℕ → Type 0
IsText None text = ⊤
IsText (Some known) text = text ≡ known

-- A finding is shown so: in the template that it is in, or else in the source.
abbrev pub IsShown : Shows → Linted → Sheets → Finding → List ℕ → Type 0
IsShown shows linted sheets finding =
    IsText (shows finding (name_or linted.name (sheet_at sheets finding.file)) (text_or linted.text (sheet_at sheets finding.file)))

-- The page has a text for each of the findings, in their order.
pub data AreShown (shows : Shows) (linted : Linted) (sheets : Sheets) : List Finding → List ℕ → Type 0 where
  none : AreShown shows linted sheets [] []
  next : {before : List Finding} {old : List ℕ} (finding : Finding) (text : List ℕ) → AreShown shows linted sheets before old → IsShown shows linted sheets finding text → AreShown shows linted sheets (before ++ finding ∷ []) (old ++ text)

-- The page of findings: each of the first thousand, and then a line about the rest, if there is a rest.
pub record IsPage (shows : Shows) (linted : Linted) (sheets : Sheets) (found : List Finding) (page : List ℕ) : Type 0 where
  pub front : List ℕ
  pub shown : AreShown shows linted sheets (take 1000 found) front
  pub rest : List ℕ
  pub is : page ≡ front ++ rest
  pub few : length found ≤ 1000 → rest ≡ []

-- The page of a source: the findings that are listed of it are shown.
pub record IsPageOf (shows : Shows) (finds : FindsOf) (files : Option Known) (linted : Linted) (page : List ℕ) : Type 0 where
  pub found : List Finding
  pub sheets : Sheets
  pub listed : AreListed finds files linted.directory linted.text sheets found
  pub is : IsPage shows linted sheets found page
