-- How far a run over a crew is, between two groups of jobs.
use Rattle.plan.specs.Walk.{empty_mind}
use Rattle.std.specs.Prelude.{◌≡◌, ℕ, ◌+◌, List, [], ◌++◌, length, fold, None, IfSome, Result, Ok, Err}
use Rattle.crew_jobs.specs.declared.job.Job.{Job}
use Rattle.crew_trait.specs.declared.reply.Reply.{Reply}
use Rattle.crew_trait.specs.declared.event.CrewEvent.{CrewEvent}
use Rattle.crew_trait.specs.Events.{Account, IsIdle, replies_in, flying_after}
use Rattle.meaning.specs.State.{Run, State}
use Rattle.meaning.specs.Play.{play, after, all_jobs, first_refused}
use Rattle.run_machine.specs.declared.machine.Phase.{Phase}
use Rattle.run_machine.specs.declared.machine.Phase.TheVariants as phase
use Rattle.run_machine.specs.declared.machine.RunEnd.{RunEnd}
use Rattle.run_test.specs.declared.wait.Wait.TheVariants as waits
use Rattle.run_machine.specs.Standing.{Standing, outcome_of}
use Rattle.proberun.specs.Ran.{Ran}
use Rattle.proberun.specs.Starts.{StartsAre, TakesLeast, Fills, EndsGroup, failures_in}

-- All replies so far are those of the jobs before, of which none is refused, and then the latest ones. (own)
pub record Heeded (replies : List Reply) (asked : ℕ) (latest : List Reply) : Type 0 where
  pub earlier : List Reply
  pub whole : replies ≡ earlier ++ latest
  pub count : length earlier ≡ asked
  pub answered : first_refused earlier ≡ None

-- How far a run is: `left` is the run that remains once the latest replies are taken. (own)
pub record Progress (window : ℕ) (run left : Run) (asked : ℕ) (latest : List Reply) (before now : Account) : Type 0 where
  pub since : List CrewEvent
  pub events : now.events ≡ before.events ++ since
  pub groups : List (List Job)
  pub attempts : now.attempts ≡ before.attempts + length (all_jobs groups)
  pub plays : (more : List Reply) → play run (replies_in before.attempts (length (all_jobs groups)) since ++ more) ≡ after groups (play left more)
  pub heeded : Heeded (replies_in before.attempts (length (all_jobs groups)) since) asked latest
  pub starts : StartsAre (all_jobs groups) before.attempts since
  pub least : TakesLeast before.events since
  pub idle : IsIdle now.events
  pub landed : (n : ℕ) → fold flying_after n since ≡ n
  pub fills : Fills window (EndsGroup before.attempts groups) 0 since
  pub failures : now.failures ≡ before.failures + failures_in (replies_in before.attempts (length (all_jobs groups)) since)

-- A run that has begun, and may be at any group of its jobs. (own)
pub record HasBegun (window : ℕ) (run : Run) (before now : Account) : Type 0 where
  pub left : Run
  pub asked : ℕ
  pub latest : List Reply
  pub progress : Progress window run left asked latest before now

-- This run was run: to its end, or, if memory ran out, as far as it had come. (own)
abbrev pub WasRun : {E : Type 0} → ℕ → Run → Account → Account → Result RunEnd E → Type 0
WasRun window run before now (Ok end) = Ran window run before now end
WasRun window run before now (Err e) = HasBegun window run before now

-- A machine that is not at an end. (own)
abbrev pub Moving : Phase → Type 0
Moving phase.Going = Unit {0}
Moving phase.Asking = Unit {0}
Moving p = ⊥

-- A machine before its first step, in this state. (own)
abbrev pub before_steps : State → Standing
before_steps st = record { phase = phase.Going; place = 0; mind = empty_mind; state = st; wait = waits.Nothing; before = 0; jobs = []; replies = [] }

-- What a machine leaves in a phase that is an end. (own)
abbrev pub Leaves : Phase → Standing → RunEnd → Type 0
Leaves p m end = IfSome (outcome_of p) (λ o. end ≡ record { outcome = o; vars = m.state.vars; defs = m.state.defs; messages = m.state.messages; log = m.state.log })
