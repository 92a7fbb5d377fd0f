-- A whole run over a crew.
use Rattle.std.specs.Prelude.{◌≡◌, ℕ, ◌+◌, ◌^◌, ◌≤◌, List, ◌++◌, length, Option, Some, None}
use Rattle.crew_jobs.specs.declared.job.Job.{Job}
use Rattle.crew_trait.specs.declared.event.CrewEvent.{CrewEvent}
use Rattle.crew_trait.specs.Events.{Account, IsIdle, replies_in}
use Rattle.meaning.specs.State.{State, How, Goes_on, Completed, Stopped, Cut, Run}
use Rattle.meaning.specs.Play.{play, all_jobs, first_refused}
use Rattle.run_machine.specs.declared.machine.RunOutcome.{RunOutcome}
use Rattle.run_machine.specs.declared.machine.RunOutcome.TheVariants as outcome
pub use Rattle.run_machine.specs.declared.machine.RunEnd.{RunEnd}
use Rattle.proberun.specs.Starts.{StartsAre, TakesLeast, Fills, EndsGroup, failures_in}

-- A run may have this many children at once. (own)
abbrev pub IsWindow : ℕ → Type 0
IsWindow window = (1 ≤ window) × (window ≤ 16)

-- A run may be made over a crew with this account: no child is in flight, and the starts that a plan asks for and the
-- refusals of a group can be counted up to 2^62. (own)
abbrev pub MayRun : Account → Type 0
MayRun before = IsIdle before.events × (before.attempts + 2 ^ 36 ≤ 2 ^ 62) × (before.failures + 256 ≤ 2 ^ 62)

-- The outcome of a run, by how it ends and by the number, from 1, of the first refused reply among those to all its
-- jobs; a run is cut short exactly if there is such a reply. (own)
abbrev pub outcome_from : How → Option ℕ → Option RunOutcome
outcome_from Goes_on None = Some outcome.Completed
outcome_from Completed None = Some outcome.Completed
outcome_from (Stopped status) None = Some (outcome.Stopped status)
outcome_from Cut (Some number) = Some (outcome.CutShort number)
outcome_from how refused = None

-- The state in which a run ends. (own)
abbrev pub state_of : RunEnd → State
state_of end = record { vars = end.vars; defs = end.defs; messages = end.messages; log = end.log }

-- A run over a crew, between two accounts, and what it leaves. (own)
pub record Ran (window : ℕ) (run : Run) (before now : Account) (end : RunEnd) : Type 0 where
  -- The account has its earlier events, and these after them.
  pub since : List CrewEvent
  pub events : now.events ≡ before.events ++ since
  -- As many starts are attempted as jobs are asked for, and the n-th start, if it succeeds, has the n-th job.
  pub groups : List (List Job)
  pub attempts : now.attempts ≡ before.attempts + length (all_jobs groups)
  pub starts : StartsAre (all_jobs groups) before.attempts since
  -- The run is played with the replies in the events, and leaves its end.
  pub how : How
  pub meaning : play run (replies_in before.attempts (length (all_jobs groups)) since)
      ≡ record { how = how; state = state_of end; groups = groups }
  pub outcome : outcome_from how (first_refused (replies_in before.attempts (length (all_jobs groups)) since)) ≡ Some end.outcome
  -- Whenever a child ends, the window is full, unless the last job of a group was attempted; each start takes the least
  -- free slot.
  pub fills : Fills window (EndsGroup before.attempts groups) 0 since
  pub least : TakesLeast before.events since
  -- As many calls fail as there are refused replies.
  pub failures : now.failures ≡ before.failures + failures_in (replies_in before.attempts (length (all_jobs groups)) since)
