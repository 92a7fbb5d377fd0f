-- What a run leaves if each start is refused.
use Rattle.std.specs.Prelude.{◌≡◌, List, length, replicate, Some}
use Rattle.crew_jobs.specs.declared.job.Job.{Job}
use Rattle.crew_trait.specs.declared.reply.Reply.{Reply}
use Rattle.crew_trait.specs.declared.reply.Reply.TheVariants.{StartRefused}
use Rattle.engine.specs.Configured.{RunEnd, outcome_from, report_of, state_of}
use Rattle.engine_frame.specs.declared.starting.Start.{Start}
use Rattle.engine_frame.specs.declared.report.Report.{Report}
use Rattle.meaning.specs.Meaning.{meaning}
use Rattle.meaning.specs.Play.{play, all_jobs, first_refused, whole}
use Rattle.meaning.specs.State.{opened, How, Run}
use Rattle.ac_tree.specs.Script.{Script}

-- A refused start for each of these jobs. (own)
abbrev pub refusals : List (List Job) → List Reply
refusals groups = replicate (length (all_jobs groups)) StartRefused

-- Each job that the run asks for is refused, and the run ends in this way and state. (own)
pub record RanAlone (run : Run) (end : RunEnd) : Type 0 where
  pub groups : List (List Job)
  pub how : How
  pub meaning : play run (refusals groups) ≡ record { how = how; state = state_of end; groups = groups }
  pub outcome : outcome_from how (first_refused (refusals groups)) ≡ Some end.outcome

-- The report is that of the statements' run from this start, if each start of a child is refused. (own)
pub record IsAlone (s : Script) (start : Start) (report : Report) : Type 0 where
  pub end : RunEnd
  pub ran : RanAlone (whole (meaning s (opened start.vars))) end
  pub told : report ≡ report_of start end report.handed
