-- The errors of a source that are listed. All of this is own.
use Rattle.std.specs.Prelude.{◌≡◌, ℕ, List, All}
use Rattle.std.specs.List.{Contains}
use Rattle.acparse.specs.Profile.{source_of}
use Rattle.lint_findings.specs.declared.finding.Finding.{Finding}
use Rattle.lint_findings.specs.declared.finding.Severity.TheVariants.{Error}
use Rattle.lint_errors.specs.Errors.{AreErrors, EndsIn}

-- It is an error, and one of the source.
abbrev pub IsError : Finding → Type 0
IsError f = (f.file ≡ 0) × (f.severity ≡ Error)

-- It is an error of the source, and ends in it if the source has this many bytes.
abbrev pub IsErrorOf : ℕ → Finding → Type 0
IsErrorOf len f = IsError f × EndsIn len f

-- If these were errors of a source with this many bytes, they still are.
abbrev pub KeepsErrors : ℕ → List Finding → List Finding → Type 0
KeepsErrors len old new = All (IsErrorOf len) old → All (IsErrorOf len) new

-- Each of these is one of those.
abbrev pub AreAmong : List Finding → List Finding → Type 0
AreAmong list all = All (Contains all) list

-- What was among the first of these lists is among the second.
abbrev pub KeepsAmong : List Finding → List Finding → Type 0
KeepsAmong old new = (x : Finding) → Contains old x → Contains new x

-- The list has each error of the source that a first reading finds: the reader's fault and the calls of unknown macros, or that the
-- source is too long.
pub record HasFirst (text : List ℕ) (list : List Finding) : Type 0 where
  pub first : List Finding
  pub errors : AreErrors text (source_of text) first
  pub among : AreAmong first list
