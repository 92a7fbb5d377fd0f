-- All that is said of a source that is run, from its parts.
use Rattle.std.proofs.Common.{◌≡◌, ℕ, List, length, Result, Ok, Err}
use Rattle.std.specs.Prelude.{IfOk}
use Rattle.crew_trait.specs.Events.{Account}
use Rattle.output_put.specs.Receipt.{Receipt, with_artifacts}
use Rattle.ac_tree.specs.Script.{Script}
use Rattle.engine_frame.specs.Given.{Accepted, Shows, Starts}
use Rattle.engine_frame.specs.Handing.{IfCompleted, ReadsBack, IfNamed, CacheReadsBack}
use Rattle.engine_frame.specs.declared.starting.Start.{Start}
use Rattle.engine_frame.specs.declared.fault.Fault.{Fault}
use Rattle.engine_frame.specs.declared.fault.Fault.TheVariants.{OutOfMemory}
use Rattle.engine_frame.specs.declared.report.Report.{Report}
use Rattle.engine.specs.Configured.{HasRunPart, IfPutRefused, IfReport, IfStarts, IsCut, IsMeant, artifacts, record_after}
use Rattle.engine.specs.Headline.{RunsSo}
use Rattle.engine.specs.Kept.{IsKept}
use Rattle.engine.specs.Remaking.{Remakes}

pub runs_so : (window : ℕ) (j : Result Accepted Fault) (templates : List (List ℕ × List ℕ)) (before now : Account) (old new : Receipt) (result : Result Report Fault)
    → IfStarts j (λ script start. IfReport result (IsMeant window script start before now))
    → IfStarts j (λ script start. IfOk result (λ report. new ≡ with_artifacts old (artifacts script start templates report)))
    → IfStarts j (λ script start. IfReport result (λ report. IfCompleted report.outcome (ReadsBack (record_after script start report))))
    → IfStarts j (λ script start. IfOk result (λ report. report.handed ≡ length (artifacts script start templates report)))
    → IfStarts j (λ script start. IfPutRefused result (λ number report. IsCut (artifacts script start templates report) old new number report))
    → IfStarts j (λ script start. IfReport result (λ report. IfNamed start.cache_name (IsKept window script start before now report)))
    → IfStarts j (λ script start. IfReport result (λ report. IfNamed start.cache_name (CacheReadsBack report.vars)))
    → IfStarts j (λ script start. IfReport result (λ report. IfCompleted report.outcome (Remakes script start templates report)))
    → IfStarts j (λ script start. result ≡ Err OutOfMemory → HasRunPart window script start before now)
    → IfStarts j (λ script start. RunsSo window script start templates before now old new result)
runs_so window (Ok (Starts script start)) templates before now old new result meaning handed remade reported cut kept reads_back remakes begun =
    record { meaning = meaning; handed = handed; remade = remade; reported = reported; cut = cut; kept = kept; reads_back = reads_back; remakes = remakes; begun = begun }
runs_so window (Ok (Shows script settings)) templates before now old new result meaning handed remade reported cut kept reads_back remakes begun = tt
runs_so window (Err f) templates before now old new result meaning handed remade reported cut kept reads_back remakes begun = tt
