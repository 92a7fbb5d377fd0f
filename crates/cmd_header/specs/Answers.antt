-- What `acrun header` prints. All of this is own.
use Rattle.std.specs.Prelude.{◌≡◌, ℕ, List, [], ◌∷◌, Option, Some, None, codes, if◌then◌else◌}
use Rattle.file_disk.specs.Known.{Known}
use Rattle.cmd_call.specs.Calls.{is_input, is_option}
use Rattle.ac_calls.specs.Calls.{calls_in}
use Rattle.lint_errors.specs.Errors.{IsAccepted}
use Rattle.lint_sources.specs.Sources.{IsNamed}
use Rattle.header_template.specs.Pages.{IsTemplate}

-- The name of the source that the words after `header` ask for: none of them, or one that is no option. Other words ask for nothing.
abbrev pub name_of : List (List ℕ) → Option (List ℕ)
name_of [] = Some (codes "configure.ac")
name_of (word ∷ []) = if is_option word then None else Some word
name_of (word ∷ other ∷ more) = None

-- The page of the header template of a source with this text, which is accepted, and what is said of its names without a description.
pub record IsMade (text page said : List ℕ) : Type 0 where
  pub accepted : IsAccepted text
  pub template : IsTemplate text accepted.script (calls_in text) page said

-- The source that is asked for has a text, and these are its page and what is said.
abbrev pub IsAnswer : Option Known → Option (List ℕ) → List ℕ → List ℕ → Type 0
IsAnswer files (Some name) page said = (text : List ℕ) × (directory : List ℕ) × IsNamed files (is_input name) name text directory × IsMade text page said
IsAnswer files None page said = ⊥
