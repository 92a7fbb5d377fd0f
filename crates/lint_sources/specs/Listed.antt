-- What is listed of a source. All of this is own.
use Rattle.std.specs.Prelude.{◌≡◌, ℕ, List, [], ◌++◌, map, Option, Ok}
use Rattle.std.specs.List.Sorted.{IsPermutation, IsSorted, IsStable}
use Rattle.acparse.specs.Profile.{source_of}
use Rattle.ac_tree.specs.Script.{Script}
use Rattle.file_disk.specs.Known.{Known}
use Rattle.lint_all.specs.Found.{HasFirst}
use Rattle.lint_findings.specs.declared.finding.Finding.{Finding}
use Rattle.lint_findings.specs.Order.{place_cmp}
use Rattle.lint_sources.specs.Missing.{AreChecked}
use Rattle.lint_sources.specs.Sources.{outputs_of}
use Rattle.lint_sources.specs.Warned.{AreWarnedOf, FindsOf}
use Rattle.lint_sources.specs.declared.sheets.Sheets.{Sheets}

-- A finding without its message. Why a statement stays is added to the messages of some errors.
abbrev pub unworded : Finding → Finding
unworded f = record f { message = [] }

-- The list has these findings and no others, in order of place. Those at one place keep their order.
pub record AreInOrder (all found : List Finding) : Type 0 where
  pub permutation : IsPermutation all found
  pub sorted : IsSorted place_cmp found
  pub stable : IsStable place_cmp all found

-- The findings of a source with this text whose templates are in this directory: its errors, an error for each lost template of a
-- source that is read, and others, which are of templates that calls of a refused source name, and the warnings about it and its
-- templates. None is left out.
pub record AreListed (finds : FindsOf) (files : Option Known) (directory text : List ℕ) (sheets : Sheets) (found : List Finding) : Type 0 where
  pub errors : List Finding
  pub first : HasFirst text errors
  pub lost : List Finding
  pub checked : (script : Script) → source_of text ≡ Ok script → AreChecked files directory (outputs_of script) [] lost
  pub worded : List Finding
  pub same : map unworded worded ≡ map unworded (errors ++ lost)
  pub others : List Finding
  pub warned : AreWarnedOf finds text sheets others
  pub in_order : AreInOrder (worded ++ others) found
