-- All that is said of a source that is run, at once.
use Rattle.std.specs.Prelude.{◌≡◌, ℕ, List, length, Result, Err, IfOk}
use Rattle.crew_trait.specs.Events.{Account}
use Rattle.output_put.specs.Receipt.{Receipt, with_artifacts}
use Rattle.ac_tree.specs.Script.{Script}
use Rattle.engine_frame.specs.Handing.{IfCompleted, ReadsBack, IfNamed, CacheReadsBack}
use Rattle.engine_frame.specs.declared.starting.Start.{Start}
use Rattle.engine_frame.specs.declared.fault.Fault.{Fault}
use Rattle.engine_frame.specs.declared.fault.Fault.TheVariants.{OutOfMemory}
use Rattle.engine_frame.specs.declared.report.Report.{Report}
use Rattle.engine.specs.Configured as run
use Rattle.engine.specs.Configured.{HasRunPart, IfPutRefused, IfReport, IsCut, IsMeant, record_after}
use Rattle.engine.specs.Kept.{IsKept}
use Rattle.engine.specs.Remaking.{Remakes}

-- A source with these statements was run from this start, with these templates. Its run is its
-- meaning. What it handed over is the cache, if one is named, and, if it completed, the record and
-- the outputs, or what is before a refused put. The report counts that. The record is read as the
-- record that the outputs are made of, and gives them again. The cache holds what was set, and sets
-- it again. If memory ran out, a part of the run was made. (own)
pub record RunsSo (window : ℕ) (script : Script) (start : Start) (templates : List (List ℕ × List ℕ)) (before now : Account) (old new : Receipt) (result : Result Report Fault) : Type 0 where
  pub meaning : IfReport result (IsMeant window script start before now)
  pub handed : IfOk result (λ report. new ≡ with_artifacts old (run.artifacts script start templates report))
  pub remade : IfReport result (λ report. IfCompleted report.outcome (ReadsBack (record_after script start report)))
  pub reported : IfOk result (λ report. report.handed ≡ length (run.artifacts script start templates report))
  pub cut : IfPutRefused result (λ number report. IsCut (run.artifacts script start templates report) old new number report)
  pub kept : IfReport result (λ report. IfNamed start.cache_name (IsKept window script start before now report))
  pub reads_back : IfReport result (λ report. IfNamed start.cache_name (CacheReadsBack report.vars))
  pub remakes : IfReport result (λ report. IfCompleted report.outcome (Remakes script start templates report))
  pub begun : result ≡ Err OutOfMemory → HasRunPart window script start before now
