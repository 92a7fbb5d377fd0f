-- The names that the templates of headers list. All of this is own.
use Rattle.std.specs.Prelude.{◌≡◌, ℕ, suc, List, [], Option, Some, None, ⊤}
use Rattle.lint_sources.specs.Sheets.{sheet_at}
use Rattle.lint_sources.specs.declared.sheets.Sheet.{Sheet}
use Rattle.lint_sources.specs.declared.sheets.Sheets.{Sheets}

-- What names become after those that a text lists, if that is known.
abbrev pub Lists : Type 0
Lists = List (List ℕ) → List ℕ → Option (List (List ℕ))

-- The names are those that are known, or nothing is known.
abbrev pub AreNames : Option (List (List ℕ)) → List (List ℕ) → Type 0
AreNames None names = ⊤
AreNames (Some known) names = names ≡ known

-- What names became after those that a template lists, if it is there.
abbrev pub IsListed : Lists → Option Sheet → List (List ℕ) → List (List ℕ) → Type 0
IsListed lists None old new = new ≡ old
IsListed lists (Some sheet) old new = AreNames (lists old sheet.text) new

-- The names that templates list: those of each number after the first one, up to the last, one template after the other. None is
-- passed over.
pub data AreListedTo (lists : Lists) (sheets : Sheets) (first : ℕ) : ℕ → List (List ℕ) → Type 0 where
  none : AreListedTo lists sheets first first []
  next : {n : ℕ} {old : List (List ℕ)} (new : List (List ℕ)) → AreListedTo lists sheets first n old → IsListed lists (sheet_at sheets (suc n)) old new → AreListedTo lists sheets first (suc n) new
