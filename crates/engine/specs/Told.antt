-- The outcome of a run, in its report.
use Rattle.proberun.specs.Outcomes as run
use Rattle.engine_frame.specs.declared.report.Outcome.{Outcome}
use Rattle.engine_frame.specs.declared.report.Outcome.TheVariants.{Completed, Stopped, CutShort}

-- The outcome as the report has it. (own)
abbrev pub outcome_of : run.Outcome → Outcome
outcome_of run.Completed = Completed
outcome_of (run.Stopped status) = Stopped status
outcome_of (run.CutShort number) = CutShort number
