-- The jobs that a crew of real children started.
use Rattle.std.specs.Prelude.{◌≡◌, ℕ, List, [], ◌∷◌, ◌++◌, Option, Some, None, fold}
use Rattle.crew_jobs.specs.declared.job.Job.{Job}
use Rattle.crew_launch.specs.Launch.{SystemCall, Wrote, Spawned, Failed}
use Rattle.crew_trait.specs.declared.event.CrewEvent.{CrewEvent}
use Rattle.crew_trait.specs.declared.event.CrewEvent.TheVariants as happens

-- The jobs that were started, and the file that was written for the next one. (own)
pub record Run : Type 0 where
  pub file : Option (List ℕ × List ℕ)
  pub jobs : List Job

-- The state after a request: a command takes the file that was written before it, if any, whether or not it starts.
-- (own)
abbrev pub run_after : Run → SystemCall → Run
run_after run (Wrote name text) = record { file = Some (name, text); jobs = run.jobs }
run_after run (Spawned words) = record { file = None; jobs = run.jobs ++ record { words = words; file = run.file } ∷ [] }
run_after run Failed = record { file = None; jobs = run.jobs }

-- The jobs that these requests started: the words of each command, and the file that was written before it. (own)
abbrev pub run_of : List SystemCall → Run
run_of calls = fold run_after (record { file = None; jobs = [] }) calls

-- The jobs of the starts that were taken. (own)
abbrev pub jobs_of : List CrewEvent → List Job
jobs_of [] = []
jobs_of (happens.Started slot job number ∷ events) = job ∷ jobs_of events
jobs_of (happens.Ended slot reply number ∷ events) = jobs_of events

-- If the requests are known, they started the jobs of the starts that were taken, in order, and nothing else. (own)
pub record Runs (calls : Option (List SystemCall)) (events : List CrewEvent) : Type 0 where
  pub same : (known : List SystemCall) → calls ≡ Some known → run_of known ≡ record { file = None; jobs = jobs_of events }
