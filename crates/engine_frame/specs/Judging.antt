-- What follows from a source, its arguments and its environment.
use Rattle.std.specs.Prelude.{◌≡◌, ℕ, List, Result, Ok, if◌then◌else◌}
use Rattle.options.specs.declared.settings.Settings.{Settings}
use Rattle.ac_tree.specs.Script.{Script}
use Rattle.engine_frame.specs.Faults.{◌>>=◌}
use Rattle.engine_frame.specs.Given.{source_settings, shows}
use Rattle.engine_frame.specs.Needed.{script_in}
use Rattle.engine_frame.specs.Shown.{shown_report}
use Rattle.engine_frame.specs.declared.fault.Fault.{Fault}
use Rattle.engine_frame.specs.declared.judging.Judged as found
use Rattle.engine_frame.specs.declared.judging.Judged.TheVariants as founds
use Rattle.engine_frame.specs.declared.report.Report.{Report}

-- What follows from a source, its arguments and its environment: a text is to be shown, which this
-- is the report of, or the source is to be run. (own)
pub data Judged : Type 0 where
  Shows : (report : Report) → Judged
  Runs : (script : Script) → (arguments : List (List ℕ)) → (settings : Settings) → Judged

-- The same of settings. (own)
abbrev pub judged_with : List (List ℕ) → Script → Settings → Judged
judged_with arguments script settings = if shows settings then Shows (shown_report script settings) else Runs script arguments settings

-- The same of arguments and an environment, or the first fault. (own)
unfoldable pub judgement : List (List ℕ) → List (List ℕ × List ℕ) → Script → Result Judged Fault
judgement arguments environment script = source_settings arguments environment script >>= λ settings. Ok (judged_with arguments script settings)

-- What a function found. (own)
abbrev pub judged_of : found.Judged → Judged
judged_of (founds.Shows report) = Shows report
judged_of (founds.Runs needs) = Runs (script_in needs) needs.arguments needs.settings

-- If the source is to be run, its templates are in this directory. (own)
abbrev pub RunsBelow : List ℕ → found.Judged → Type 0
RunsBelow directory (founds.Shows report) = Unit {0}
RunsBelow directory (founds.Runs needs) = needs.settings.srcdir ≡ directory
