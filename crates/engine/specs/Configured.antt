-- What a whole run does, and what is returned of it.
use Rattle.std.specs.Prelude.{◌≡◌, ℕ, ◌+◌, List, ◌++◌, length, Result, Ok, Err}
use Rattle.crew_trait.specs.Events.{Account}
use Rattle.meaning.specs.Meaning.{meaning}
use Rattle.meaning.specs.Play.{whole}
use Rattle.meaning.specs.State.{opened}
use Rattle.options.specs.declared.settings.Settings.{Settings}
use Rattle.output_put.specs.Receipt.{Receipt, with_artifacts, IsCutAt}
use Rattle.output_put.specs.declared.artifact.Artifact.{Artifact}
use Rattle.proberun.specs.Progress.{HasBegun}
pub use Rattle.proberun.specs.Ran.{IsWindow, MayRun, Ran, RunEnd, outcome_from, state_of}
use Rattle.status_record.specs.declared.record.Record.{Record}
use Rattle.ac_tree.specs.Script.{Script}
use Rattle.engine_frame.specs.Given.{Accepted, Shows, Starts}
use Rattle.engine_frame.specs.Handing.{artifacts_of, run_record, IfCompleted, ReadsBack, IfNamed, IsCacheOf}
use Rattle.engine_frame.specs.Shown.{shown_report}
use Rattle.engine_frame.specs.Told.{entries_of}
use Rattle.engine.specs.Told.{outcome_of}
use Rattle.engine_frame.specs.declared.starting.Start.{Start}
use Rattle.engine_frame.specs.declared.fault.Fault.{Fault}
use Rattle.engine_frame.specs.declared.fault.Fault.TheVariants.{PutRefused, OutOfMemory}
use Rattle.engine_frame.specs.declared.report.Report.{Report}

-- The report of a run that leaves this, of which so many artifacts were handed over: its pieces follow those of its opening.
-- (own)
abbrev pub report_of : Start → RunEnd → ℕ → Report
report_of start end handed =
    record { outcome = outcome_of end.outcome; vars = end.vars; defs = end.defs; messages = start.notes ++ end.messages; log = entries_of start.notes ++ end.log; handed = handed }

-- If the source is to be run, this holds. (own)
abbrev pub IfStarts : Result Accepted Fault → (Script → Start → Type 0) → Type 0
IfStarts (Ok (Starts script start)) goes_on = goes_on script start
IfStarts judged goes_on = Unit {0}

-- Nothing is run: there is a fault, or a text is shown. (own)
abbrev pub IsNotRun : Result Accepted Fault → Type 0
IsNotRun (Ok (Starts script start)) = ⊥
IsNotRun judged = Unit {0}

-- If the report of a run is returned, also with a refused put, this holds. (own)
abbrev pub IfReport : Result Report Fault → (Report → Type 0) → Type 0
IfReport (Ok report) goes_on = goes_on report
IfReport (Err (PutRefused number report)) goes_on = goes_on report
IfReport (Err f) goes_on = Unit {0}

-- If a put was refused, this holds of its number and of the report. (own)
abbrev pub IfPutRefused : Result Report Fault → (ℕ → Report → Type 0) → Type 0
IfPutRefused (Err (PutRefused number report)) goes_on = goes_on number report
IfPutRefused result goes_on = Unit {0}

-- A report is returned, also with a refused put. (own)
abbrev pub HasReport : Result Report Fault → Type 0
HasReport (Ok report) = Unit {0}
HasReport (Err (PutRefused number report)) = Unit {0}
HasReport (Err f) = ⊥

-- What is returned, if memory does not run out: the fault of what is given, the text that is to be shown, or a report. (own)
abbrev pub IsAnswer : Result Accepted Fault → Result Report Fault → Type 0
IsAnswer judged (Err OutOfMemory) = Unit {0}
IsAnswer (Err f) result = result ≡ Err f
IsAnswer (Ok (Shows script settings)) result = result ≡ Ok (shown_report script settings)
IsAnswer (Ok (Starts script start)) result = HasReport result

-- The run is the meaning of the statements from their opening, under the replies of the crew, and this is its report. (own)
pub record IsMeant (window : ℕ) (script : Script) (start : Start) (before now : Account) (report : Report) : Type 0 where
  pub end : RunEnd
  pub ran : Ran window (whole (meaning script (opened start.vars))) before now end
  pub told : report ≡ report_of start end report.handed

-- What was done of a run before memory ran out: nothing was started; or the run had begun, and its
-- starts so far, and their replies, are those of the run; or it had come to its end, and what it
-- left was being made into what it hands over. (own)
pub data HasRunPart (window : ℕ) (script : Script) (start : Start) (before now : Account) : Type 0 where
  not_begun : now ≡ before → HasRunPart window script start before now
  begun : HasBegun window (whole (meaning script (opened start.vars))) before now → HasRunPart window script start before now
  ended : {end : RunEnd} → Ran window (whole (meaning script (opened start.vars))) before now end → HasRunPart window script start before now

-- The record of a run that has this report. (own)
abbrev pub record_after : Script → Start → Report → Record
record_after script start report = run_record script start.srcdir start.args report.vars report.defs

-- What a run that has this report hands over. (own)
abbrev pub artifacts : Script → Start → List (List ℕ × List ℕ) → Report → List Artifact
artifacts script start templates report =
    artifacts_of start.cache_name start.no_create templates report.outcome report.vars (record_after script start report)

-- Put number k was refused: the artifacts before it were handed over, and nothing after them. (own)
pub record IsCut (all : List Artifact) (before now : Receipt) (k : ℕ) (report : Report) : Type 0 where
  pub cut : IsCutAt all before now k
  pub handed : report.handed + 1 ≡ k

-- The fault is that of a refused put, and its report counts the artifacts before it. (own)
pub record IsRefusedPut (report : Report) (all : List Artifact) (before now : Receipt) (f : Fault) : Type 0 where
  pub number : ℕ
  pub handed : ℕ
  pub is : f ≡ PutRefused number (record report { handed = handed })
  pub cut : IsCutAt all before now number
  pub counts : handed + 1 ≡ number

-- What is returned of a run: everything was handed over, or a put was refused, or memory ran out. (own)
abbrev pub IsDone : ℕ → Script → Start → List (List ℕ × List ℕ) → Account → Account → Receipt → Receipt → Result Report Fault → Type 0
IsDone window script start templates before now old new (Ok report) =
    IsMeant window script start before now report
    × (new ≡ with_artifacts old (artifacts script start templates report))
    × (report.handed ≡ length (artifacts script start templates report))
    × IfCompleted report.outcome (ReadsBack (record_after script start report))
    × IfNamed start.cache_name (IsCacheOf report.vars)
IsDone window script start templates before now old new (Err (PutRefused number report)) =
    IsMeant window script start before now report
    × IsCut (artifacts script start templates report) old new number report
    × IfCompleted report.outcome (ReadsBack (record_after script start report))
    × IfNamed start.cache_name (IsCacheOf report.vars)
IsDone window script start templates before now old new (Err f) = (f ≡ OutOfMemory) × HasRunPart window script start before now

-- A whole call: it is refused, or memory runs out, or a text is shown, and then `same` holds; or a run is done. (own)
pub data IsWhole (same : Type 0) (window : ℕ) (judged : Result Accepted Fault) (templates : List (List ℕ × List ℕ)) (before now : Account) (old new : Receipt) : Result Report Fault → Type 0 where
  refused : {f : Fault} → judged ≡ Err f → same → IsWhole same window judged templates before now old new (Err f)
  memory : same → IsWhole same window judged templates before now old new (Err OutOfMemory)
  shown : {script : Script} {settings : Settings} → judged ≡ Ok (Shows script settings) → same → IsWhole same window judged templates before now old new (Ok (shown_report script settings))
  ran : {script : Script} {start : Start} {result : Result Report Fault} → judged ≡ Ok (Starts script start)
      → IsDone window script start templates before now old new result → IsWhole same window judged templates before now old new result
