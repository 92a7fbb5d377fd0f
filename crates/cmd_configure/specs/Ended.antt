-- What happened if the program was asked to run a configure.ac, and what is written of it, case by
-- case: also if its exit status is 2.
use Rattle.std.specs.Prelude.{◌≡◌, ℕ, ◌+◌, ◌<◌, Bool, true, false, List, [], ◌∷◌, ◌++◌, Option, Some, None, Ok, Err, length, take, IfSome, codes}
use Rattle.std.specs.Io.KnownBytes.{Appends}
use Rattle.acparse.specs.Profile.{source_of}
use Rattle.cfglog.specs.Texts.{log_of}
use Rattle.options_line.specs.Srcdir.{srcdir_of}
use Rattle.cmd_status.specs.Happened.{is_all_done, status_after}
use Rattle.cmd_status.specs.Left.{AreSameFiles}
use Rattle.cmd_status.specs.Printed.{Written, only_lines}
use Rattle.cmd_status.specs.Reasons.{memory_line, run_line, unwritten, written_after}
use Rattle.cmd_status.specs.declared.happened.Happened.{Happened}
use Rattle.cmd_status.specs.declared.happened.Happened.TheVariants.{NotRead, NotRecorded, Refused, OutOfMemory, Shown, Ran}
use Rattle.cmd_status.specs.declared.happened.RunLeft.{RunLeft}
use Rattle.crew_trait.specs.Events.{Account}
use Rattle.fault_spots.specs.FaultLines.{fault_line, remake_line}
use Rattle.file_disk.specs.Known.{Known, Deed}
use Rattle.file_texts.specs.Done.{AreDone}
use Rattle.file_texts.specs.Held.{AreUnguarded}
use Rattle.file_texts.specs.Lines.{AreLines}
use Rattle.file_texts.specs.Places.{is_own}
use Rattle.file_texts.specs.Steps.{IsBegun, IsReplaced}
use Rattle.file_texts.specs.declared.places.Guard.{Guard}
use Rattle.file_texts.specs.declared.places.FilePlace.{FilePlace}
use Rattle.engine.specs.Configured.{HasRunPart, IsMeant, artifacts}
use Rattle.engine.specs.Remaking.{Remakes}
use Rattle.engine_frame.specs.Faults.{named, of_parse}
use Rattle.engine_frame.specs.Given.{source_settings, shows, started}
use Rattle.engine_frame.specs.Handing.{IfCompleted}
use Rattle.engine_frame.specs.Rechecked as again
use Rattle.engine_frame.specs.Shown.{shown_text}
use Rattle.engine_frame.specs.declared.starting.Start.{Start}
use Rattle.engine_frame.specs.declared.fault.Fault.{Fault}
use Rattle.engine_frame.specs.declared.fault.RemakeFault.{RemakeFault}
use Rattle.engine_frame.specs.declared.report.Report.{Report}
use Rattle.engine_frame.specs.Told.{status_of}
use Rattle.cmd_call.specs.Guarded.{AreGuarded, inputs_of}
use Rattle.cmd_call.specs.Lines.{SaysLines, error_line}
use Rattle.cmd_call.specs.Supplies.{ReadsLimited, ReadsWhole, AreGiven, path_of}
use Rattle.cmd_configure.specs.Configures.{IsAsked, IsCacheApart, ReadsSource}
use Rattle.options.specs.declared.settings.Settings.{Settings}
use Rattle.output_put.specs.declared.artifact.Artifact.{Artifact}
use Rattle.ac_tree.specs.Lists.{lists_of}
use Rattle.ac_tree.specs.Script.{Script}

-- This is printed on standard output, and these messages are said on standard error, as far as it takes
-- them, with pages among them if it is asked why; and this is so of both. (own)
abbrev pub Prints : {E : Type 0} → Option (List ℕ) → Option (List ℕ) → (E → Option (List ℕ)) → (E → Bool) → E → E → Bool → (List ℕ → List (List ℕ) → Type 0) → Type 0
Prints output printed contents has_failed old new is_asked is_so =
    (out : List ℕ) × (said : List (List ℕ)) × is_so out said × Appends output printed out × SaysLines contents has_failed old new is_asked said

-- Of what a run hands over, these were taken: all, if no put was refused, and else those before it.
-- (own)
pub data AreTaken (all : List Artifact) : List Artifact → Option ℕ → Type 0 where
  everything : AreTaken all all None
  only_first : (first : ℕ) → first < length all → AreTaken all (take first all) (Some (first + 1))

-- The number of refused puts. (own)
abbrev pub refusals_of : Option ℕ → ℕ
refusals_of None = 0
refusals_of (Some number) = 1

-- All that was done to files is what was done for these artifacts, with so many puts refused, and
-- these lines, while these names were guarded; and then the log was written with this text, or it was
-- begun at most. (own)
pub record IsLeftSo (k : Known) (guards : List Guard) (taken : List Artifact) (refusals : ℕ) (lines log : List ℕ) (is_logged : Bool) : Type 0 where
  pub places : List FilePlace
  pub before : List Deed
  pub logged : List Deed
  pub deeds : k.deeds ≡ before ++ logged
  pub done : AreDone k.files guards taken refusals lines places before
  pub written : is_logged ≡ true → IsReplaced (record { deeds = before; files = k.files }) (codes "config.log") log logged
  pub unwritten : is_logged ≡ false → IsBegun (record { deeds = before; files = k.files }) (codes "config.log") logged

-- The path of the source that arguments name. (own)
abbrev pub source_path : List (List ℕ) → List ℕ
source_path arguments = path_of (srcdir_of arguments) (codes "configure.ac")

-- The statements were run with these settings, with the cache and the templates as they are in
-- files. The crew made the run in this way, whose outcome has this status. What it handed over before
-- a put was refused was written, and then its log, unless that could not be, and nothing else was
-- done to files. Nothing that was taken has a guarded name. Its messages and the lines on what was taken
-- are printed; its messages for standard error are said, and then what could not be written. (own)
pub record IsRunLeft (window : ℕ) (arguments : List (List ℕ)) (script : Script) (settings : Settings) (before now : Account) (old new : Option Known) (left : RunLeft) (written : Written) : Type 0 where
  pub cache : Option (List ℕ)
  pub templates : List (List ℕ × List ℕ)
  pub start : Start
  pub report : Report
  pub given : AreGiven old script settings.cache_name settings.srcdir settings.no_create cache templates
  pub apart : IsCacheApart old settings.cache_name
  pub starts : started arguments cache templates script settings ≡ Ok start
  pub meant : IsMeant window script start before now report
  pub remakes : IfCompleted report.outcome (Remakes script start templates report)
  pub exits : left.status ≡ status_of report.outcome
  pub taken : List Artifact
  pub are_taken : AreTaken (artifacts script start templates report) taken left.refused
  pub lines : List ℕ
  pub are_lines : AreLines taken lines
  pub writes : written ≡ written_after settings.quiet report lines left
  pub guards : List Guard
  pub guarded : AreGuarded old guards (inputs_of settings.srcdir templates)
  pub unguarded : AreUnguarded guards taken
  pub same : AreSameFiles old new
  pub done : IfSome new (λ k. IsLeftSo k guards taken (refusals_of left.refused) lines (log_of report.log) left.is_logged)

-- The cache has this name, which a run has for itself. (own)
abbrev pub IsOwnCache : Option Known → Option (List ℕ) → List ℕ → Type 0
IsOwnCache files cache_name name = (cache_name ≡ Some name) × IfSome files (λ k. is_own k name ≡ true)

-- What became of a run with these statements and settings, and what is written of it. The cache or a
-- precious variable has this fault, or a template is missing, as they are in files, or the cache has a
-- name that a run has for itself, and then nothing is started or done. Or memory ran out: nothing is done to files, and the starts so far, if there were
-- any, are those of the run. Or the run left this. (own)
pub data IsRunEnd (window : ℕ) (arguments : List (List ℕ)) (script : Script) (settings : Settings) (before now : Account) (old new : Option Known) : Happened → Written → Type 0 where
  refused : {f : Fault} (cache : Option (List ℕ)) (templates : List (List ℕ × List ℕ))
      → AreGiven old script settings.cache_name settings.srcdir settings.no_create cache templates
      → started arguments cache templates script settings ≡ Err f → now ≡ before → new ≡ old
      → IsRunEnd window arguments script settings before now old new (Refused f) (only_lines (run_line (Some (lists_of script).precious) f ∷ []))
  own_cache : (name : List ℕ) → IsOwnCache old settings.cache_name name → now ≡ before → new ≡ old
      → IsRunEnd window arguments script settings before now old new NotRead (only_lines (error_line (codes "file") name ∷ []))
  unstarted : now ≡ before → new ≡ old → IsRunEnd window arguments script settings before now old new OutOfMemory (only_lines (memory_line ∷ []))
  cut_off : (cache : Option (List ℕ)) (templates : List (List ℕ × List ℕ)) (start : Start)
      → AreGiven old script settings.cache_name settings.srcdir settings.no_create cache templates
      → started arguments cache templates script settings ≡ Ok start → HasRunPart window script start before now → new ≡ old
      → IsRunEnd window arguments script settings before now old new OutOfMemory (only_lines (memory_line ∷ []))
  ran : {left : RunLeft} {written : Written} → IsRunLeft window arguments script settings before now old new left written
      → IsRunEnd window arguments script settings before now old new (Ran left) written

-- What happened to the source that the arguments name, and what is written of it. It can't be read, or has
-- this fault, or the arguments have it, or memory ran out, or a text was shown: then nothing was
-- started, and nothing was done to files. Or it was to be run, and the run ended so. (own)
pub data HasHappened (window : ℕ) (arguments : List (List ℕ)) (environment : List (List ℕ × List ℕ)) (before now : Account) (old new : Option Known) : Happened → Written → Type 0 where
  not_read : ReadsLimited old (source_path arguments) None → now ≡ before → new ≡ old
      → HasHappened window arguments environment before now old new NotRead (only_lines (error_line (codes "file") (source_path arguments) ∷ []))
  bad_source : {f : Fault} (source : List ℕ) → ReadsSource old arguments source → named of_parse (source_of source) ≡ Err f
      → now ≡ before → new ≡ old → HasHappened window arguments environment before now old new (Refused f) (only_lines (fault_line f ∷ []))
  bad_arguments : {f : Fault} (source : List ℕ) (script : Script) → ReadsSource old arguments source → source_of source ≡ Ok script
      → source_settings arguments environment script ≡ Err f
      → now ≡ before → new ≡ old → HasHappened window arguments environment before now old new (Refused f) (only_lines (fault_line f ∷ []))
  no_memory : now ≡ before → new ≡ old → HasHappened window arguments environment before now old new OutOfMemory (only_lines (memory_line ∷ []))
  shown : {is_printed : Bool} (source : List ℕ) (script : Script) (settings : Settings) → ReadsSource old arguments source
      → IsAsked arguments environment source script settings → shows settings ≡ true
      → now ≡ before → new ≡ old → HasHappened window arguments environment before now old new (Shown is_printed) (record { out = shown_text script settings; lines = unwritten (codes "standard output") is_printed })
  run : {happened : Happened} {written : Written} (source : List ℕ) (script : Script) (settings : Settings) → ReadsSource old arguments source
      → IsAsked arguments environment source script settings → shows settings ≡ false → settings.srcdir ≡ srcdir_of arguments
      → IsRunEnd window arguments script settings before now old new happened written
      → HasHappened window arguments environment before now old new happened written

-- What happened to the run of the record that is the text of config.status, which is done again with
-- its arguments and then `--no-create`, with one child at once, and what is written of it. The record can't
-- be read, or has this fault, or memory ran out: then nothing was started, and nothing was done to
-- files. (own)
pub data HasHappenedAgain (environment : List (List ℕ × List ℕ)) (before now : Account) (old new : Option Known) : Happened → Written → Type 0 where
  no_record : ReadsWhole old (codes "config.status") None → now ≡ before → new ≡ old
      → HasHappenedAgain environment before now old new NotRead (only_lines (error_line (codes "file") (codes "config.status") ∷ []))
  bad_record : {f : RemakeFault} (text : List ℕ) → ReadsWhole old (codes "config.status") (Some text) → again.rechecked text ≡ Err f
      → now ≡ before → new ≡ old → HasHappenedAgain environment before now old new (NotRecorded f) (only_lines (remake_line f ∷ []))
  no_memory_again : now ≡ before → new ≡ old → HasHappenedAgain environment before now old new OutOfMemory (only_lines (memory_line ∷ []))
  ran_again : {happened : Happened} {written : Written} (text : List ℕ) (arguments : List (List ℕ)) → ReadsWhole old (codes "config.status") (Some text)
      → again.HasArguments text arguments → HasHappened 1 arguments environment before now old new happened written
      → HasHappenedAgain environment before now old new happened written

-- The exit status is that of what happened, which is so. If all is in its place, this is so, too.
-- (own)
abbrev pub Exits : ℕ → (Happened → Type 0) → Type 0 → Type 0
Exits status is_so in_place = (happened : Happened) × (status ≡ status_after happened) × is_so happened × (is_all_done happened ≡ true → in_place)
