-- Two runs of one plan, over crews with the same replies.
use Rattle.std.specs.Prelude.{◌≡◌, ℕ, ◌+◌, ◌-◌, List, [], ◌∷◌, ◌⊎◌, length}
use Rattle.crew_jobs.specs.declared.job.Job.{Job}
use Rattle.crew_trait.specs.declared.event.CrewEvent.{CrewEvent}
use Rattle.crew_trait.specs.declared.event.CrewEvent.TheVariants.{Started, Ended}
use Rattle.crew_trait.specs.declared.reply.Reply.{Reply}
use Rattle.crew_trait.specs.Events.{Account, replies_in}
use Rattle.meaning.specs.State.{Run}
use Rattle.meaning.specs.Play.{all_jobs}
use Rattle.run_machine.specs.declared.machine.RunEnd.{RunEnd}
use Rattle.proberun.specs.Ran.{Ran}

-- The n-th replies are the same, for every n that both lists have. (own)
abbrev pub Agree : List Reply → List Reply → Type 0
Agree [] ys = Unit {0}
Agree (x ∷ xs) [] = Unit {0}
Agree (x ∷ xs) (y ∷ ys) = (x ≡ y) × Agree xs ys

-- Of the starts after the first `base`, the n-th one was taken, and has this job. (own)
abbrev pub HasStart : ℕ → Job → ℕ → List CrewEvent → Type 0
HasStart n job base [] = ⊥
HasStart n job base (Started slot its number ∷ events) = ((number ≡ base + n) × (its ≡ job)) ⊎ HasStart n job base events
HasStart n job base (Ended slot reply number ∷ events) = HasStart n job base events

-- Starts of one number have the same job, if both were taken. (own)
abbrev pub SameJobs : ℕ → List CrewEvent → ℕ → List CrewEvent → Type 0
SameJobs base events other_base other_events =
    (n : ℕ) (job other : Job) → HasStart n job base events → HasStart n other other_base other_events → job ≡ other

-- Two runs whose n-th replies are the same, for every n that both have, ask for the same groups of jobs and leave the
-- same end, whatever their windows and the orders in which their children end. They attempt as many starts, and starts of
-- one number have the same job. (own)
abbrev pub RunsAgree : Type 0
RunsAgree = (run : Run) (window other_window : ℕ) (before now other_before other_now : Account) (end other_end : RunEnd)
    → (one : Ran window run before now end) (other : Ran other_window run other_before other_now other_end)
    → Agree (replies_in before.attempts (length (all_jobs one.groups)) one.since) (replies_in other_before.attempts (length (all_jobs other.groups)) other.since)
    → (one.groups ≡ other.groups) × (end ≡ other_end)
    × (now.attempts - before.attempts ≡ other_now.attempts - other_before.attempts)
    × SameJobs before.attempts one.since other_before.attempts other.since
