-- The warnings about a source and its templates, by what is found of each part. All of this is own.
use Rattle.std.specs.Prelude.{◌≡◌, ℕ, zero, suc, List, [], ◌∷◌, ◌++◌, Option, Some, None, Result, Ok, Err, ⊤}
use Rattle.ac_statement.specs.declared.fault.ParseFault.{ParseFault}
use Rattle.ac_tree.specs.declared.tree.Stmt.{Stmt}
use Rattle.lint_errors.specs.Readings.{IsReading}
use Rattle.lint_errors.specs.declared.reading.Reading.{Reading}
use Rattle.lint_findings.specs.declared.finding.Finding.{Finding}
use Rattle.lint_sources.specs.Sheets.{count_of}
use Rattle.lint_sources.specs.declared.sheets.Sheets.{Sheets}
use Rattle.lint_sources.specs.declared.warnings.Part.{Part}
use Rattle.lint_sources.specs.declared.warnings.Part.TheVariants.{Calls, Statements, Compiler, Outputs, Template, Unlisted}
use Rattle.lint_templates.specs.declared.given.Given.{Given}

-- What is found of each part, if that is known.
abbrev pub Finds : Type 0
Finds = Part → Option (List Finding)

-- What is found of each part of a source with a text that is read so, with these templates, which get so much from it.
abbrev pub FindsOf : Type 0
FindsOf = List ℕ → Reading → Sheets → Option Given → Finds

-- What findings became after those that are known of a part: these are behind them.
abbrev pub AreAppended : Option (List Finding) → List Finding → List Finding → Type 0
AreAppended None old new = ⊤
AreAppended (Some known) old new = new ≡ old ++ known

-- What findings became after those of parts, one part after the other.
pub data AreFound (finds : Finds) (old : List Finding) : List Part → List Finding → Type 0 where
  none : AreFound finds old [] old
  next : {before : List Part} {mid : List Finding} (part : Part) (new : List Finding) → AreFound finds old before mid → AreAppended (finds part) mid new → AreFound finds old (before ++ part ∷ []) new

-- The parts of a source that is read, and so many of its templates.
abbrev pub parts_to : ℕ → List Part
parts_to zero = Calls ∷ Statements ∷ Compiler ∷ Outputs ∷ []
parts_to (suc n) = parts_to n ++ Template (suc n) ∷ []

-- The parts of a source that is read, and all of its templates.
abbrev pub all_parts : Sheets → List Part
all_parts sheets = parts_to (count_of sheets) ++ Unlisted ∷ []

-- The parts of a source with these templates. If it is refused, those are its calls alone.
abbrev pub parts_of : Result (List Stmt) ParseFault → Sheets → List Part
parts_of (Err fault) sheets = Calls ∷ []
parts_of (Ok statements) sheets = all_parts sheets

-- The findings have the warnings about each part of a source, one part after the other, behind any others.
pub record AreWarned (finds : FindsOf) (text : List ℕ) (reading : Reading) (sheets : Sheets) (found : List Finding) : Type 0 where
  pub given : Option Given
  pub first : List Finding
  pub warned : AreFound (finds text reading sheets given) first (parts_of reading.source sheets) found

-- The same, if the source is read as it is.
pub record AreWarnedOf (finds : FindsOf) (text : List ℕ) (sheets : Sheets) (found : List Finding) : Type 0 where
  pub reading : Reading
  pub read : IsReading text reading
  pub are : AreWarned finds text reading sheets found
