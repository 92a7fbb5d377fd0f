-- What is shown in place of a run.
use Rattle.std.specs.Prelude.{ℕ, List, [], ◌∷◌, ◌++◌, Option, Some, None, unwrap_or, codes, if◌then◌else◌}
use Rattle.deftable.specs.declared.note.Note.{Note}
use Rattle.deftable.specs.declared.note.Stream.TheVariants.{Out}
use Rattle.options.specs.HelpText.{help_text}
use Rattle.options.specs.declared.settings.Settings.{Settings}
use Rattle.ac_tree.specs.declared.statement.Effect.{Effect}
use Rattle.ac_tree.specs.declared.statement.Effect.TheVariants.{Package}
use Rattle.ac_tree.specs.declared.tree.Stmt.{Stmt}
use Rattle.ac_tree.specs.declared.tree.Stmt.TheVariants.{Do, Choose', CacheCheck'}
use Rattle.ac_tree.specs.Lists.{lists_of}
use Rattle.ac_tree.specs.Script.{Script, Done, Then, Choice, Check}
use Rattle.engine_frame.specs.declared.report.Report.{Report}
use Rattle.engine_frame.specs.declared.report.Outcome.TheVariants.{Shown}

-- The line of the version of a package. (Autoconf's manual, "configure Invocation")
abbrev pub line_of : List ℕ → List ℕ → List ℕ
line_of title version = title ++ codes " configure " ++ version ++ codes "\n"

-- The line of the version, if the effect is that of AC_INIT. (own)
abbrev pub package_line : Effect → Option (List ℕ)
package_line (Package title version bug tarname url) = Some (line_of title version)
package_line effect = None

-- The same of a statement of the code. (own)
abbrev pub statement_line : Stmt → Option (List ℕ)
statement_line (Do declares effect) = package_line effect
statement_line (Choose' declares subject m cases) = None
statement_line (CacheCheck' message name m commands) = None

-- The line of the version: the package and its version, by the first AC_INIT. (Autoconf's manual, "configure Invocation")
abbrev pub version_line : Script → List ℕ
version_line Done = line_of [] []
version_line (Then declares effect rest) = unwrap_or (package_line effect) (version_line rest)
version_line (Choice declares subject cases rest) = version_line rest
version_line (Check message name commands rest) = version_line rest

-- The text that is shown: the help text if it is wanted, and otherwise the line of the version. (own)
abbrev pub shown_text : Script → Settings → List ℕ
shown_text script settings = if settings.help then help_text (lists_of script).help else version_line script

-- The report if a text is shown: nothing is run. (own)
unfoldable pub shown_report : Script → Settings → Report
shown_report script settings = record {
  outcome = Shown;
  vars = settings.vars;
  defs = [];
  messages = record { stream = Out; text = shown_text script settings } ∷ [];
  log = [];
  handed = 0;
}
