-- What the program does if it is asked to run a configure.ac.
use Rattle.std.specs.Prelude.{◌≡◌, ℕ, true, false, List, [], Option, Some, Ok, IfSome, codes}
use Rattle.acparse.specs.Profile.{source_of}
use Rattle.cfglog.specs.Texts.{log_of}
use Rattle.options_line.specs.Srcdir.{srcdir_of}
use Rattle.cmd_status.specs.Left.{AreSameFiles, IsLeft}
use Rattle.cmd_status.specs.Printed.{printed}
use Rattle.crew_trait.specs.Events.{Account}
use Rattle.file_disk.specs.Known.{Known}
use Rattle.file_texts.specs.Held.{AreUnguarded}
use Rattle.file_texts.specs.Lines.{AreLines}
use Rattle.file_texts.specs.Names.{IsFileName}
use Rattle.file_texts.specs.Places.{is_own}
use Rattle.file_texts.specs.declared.places.Guard.{Guard}
use Rattle.engine.specs.Configured.{IsMeant, artifacts}
use Rattle.engine.specs.Remaking.{Remakes}
use Rattle.engine_frame.specs.Given.{source_settings, shows, started}
use Rattle.engine_frame.specs.Handing.{IfCompleted}
use Rattle.engine_frame.specs.Rechecked as again
use Rattle.engine_frame.specs.Shown.{shown_text}
use Rattle.engine_frame.specs.declared.starting.Start.{Start}
use Rattle.engine_frame.specs.declared.report.Report.{Report}
use Rattle.engine_frame.specs.Told.{status_of}
use Rattle.cmd_call.specs.Errors.{errors_of}
use Rattle.cmd_call.specs.Guarded.{AreGuarded, inputs_of}
use Rattle.cmd_call.specs.Supplies.{ReadsLimited, ReadsWhole, AreGiven, path_of}
use Rattle.options.specs.declared.settings.Settings.{Settings}
pub use Rattle.proberun.specs.Ran.{IsWindow, MayRun}
use Rattle.ac_tree.specs.Script.{Script}

-- The source of a run with these arguments was read: it is the text of configure.ac in the
-- directory that they name. (own)
abbrev pub ReadsSource : Option Known → List (List ℕ) → List ℕ → Type 0
ReadsSource files arguments source = ReadsLimited files (path_of (srcdir_of arguments) (codes "configure.ac")) (Some source)

-- The source has these statements, and by the arguments and the environment its run has these
-- settings. (own)
pub record IsAsked (arguments : List (List ℕ)) (environment : List (List ℕ × List ℕ)) (source : List ℕ) (script : Script) (settings : Settings) : Type 0 where
  pub read : source_of source ≡ Ok script
  pub settles : source_settings arguments environment script ≡ Ok settings

-- The cache, if one is named, has no name that a run has for itself. (own)
abbrev pub IsCacheApart : Option Known → Option (List ℕ) → Type 0
IsCacheApart files cache_name = IfSome cache_name (λ name. IsFileName name → IfSome files (λ k. is_own k name ≡ false))

-- The statements are run with these settings, with the cache and the templates as they are in
-- files. No check writes over the cache. The crew made the run in this way. What it hands over and its log are written, and nothing
-- else is done to files. The log, the source and the templates are guarded: nothing that it hands over
-- has one of their names, and none is written at one of their places. The record of a completed run
-- gives its outputs again. This is printed on standard output, these messages are for standard error,
-- and this is the exit status. (own)
pub record IsRun (window : ℕ) (arguments : List (List ℕ)) (script : Script) (settings : Settings) (before now : Account) (old new : Option Known) (out : List ℕ) (said : List (List ℕ)) (status : ℕ) : Type 0 where
  pub cache : Option (List ℕ)
  pub templates : List (List ℕ × List ℕ)
  pub start : Start
  pub report : Report
  pub lines : List ℕ
  pub given : AreGiven old script settings.cache_name settings.srcdir settings.no_create cache templates
  pub apart : IsCacheApart old settings.cache_name
  pub starts : started arguments cache templates script settings ≡ Ok start
  pub meant : IsMeant window script start before now report
  pub are_lines : AreLines (artifacts script start templates report) lines
  pub guards : List Guard
  pub guarded : AreGuarded old guards (inputs_of settings.srcdir templates)
  pub unguarded : AreUnguarded guards (artifacts script start templates report)
  pub remakes : IfCompleted report.outcome (Remakes script start templates report)
  pub same : AreSameFiles old new
  pub left : IfSome new (λ k. IsLeft k guards (artifacts script start templates report) lines (log_of report.log))
  pub prints : out ≡ printed settings.quiet report.messages lines
  pub says : said ≡ errors_of report.messages
  pub exits : status ≡ status_of report.outcome

-- For the source that the arguments name, as it is in its file, the arguments and the environment
-- ask for a text to be shown, and it is printed, and nothing else is done; or they ask for a run,
-- which is made, with templates in the directory of the source. (own)
pub data IsConfigured (window : ℕ) (arguments : List (List ℕ)) (environment : List (List ℕ × List ℕ)) (before now : Account) (old new : Option Known) (out : List ℕ) (said : List (List ℕ)) : ℕ → Type 0 where
  shown : (source : List ℕ) (script : Script) (settings : Settings) → ReadsSource old arguments source → IsAsked arguments environment source script settings
      → shows settings ≡ true → now ≡ before → new ≡ old → out ≡ shown_text script settings → said ≡ [] → IsConfigured window arguments environment before now old new out said 0
  ran : (source : List ℕ) (script : Script) (settings : Settings) {status : ℕ} → ReadsSource old arguments source → IsAsked arguments environment source script settings
      → shows settings ≡ false → settings.srcdir ≡ srcdir_of arguments → IsRun window arguments script settings before now old new out said status → IsConfigured window arguments environment before now old new out said status

-- For the record that is the text of config.status, and is of the second version, the program does
-- what it does if it is asked to run a configure.ac with the arguments of the record and then
-- `--no-create`, with one child at once. (own)
pub record IsRechecked (environment : List (List ℕ × List ℕ)) (before now : Account) (old new : Option Known) (out : List ℕ) (said : List (List ℕ)) (status : ℕ) : Type 0 where
  pub text : List ℕ
  pub arguments : List (List ℕ)
  pub found : ReadsWhole old (codes "config.status") (Some text)
  pub rechecked : again.HasArguments text arguments
  pub configured : IsConfigured 1 arguments environment before now old new out said status
