-- The starts and the ends of a run, in its events.
use Rattle.std.specs.Prelude.{◌≡◌, ℕ, ◌+◌, ◌-◌, ◌<◌, ◌≤◌, ◌⊎◌, true, List, [], ◌∷◌, ◌++◌, length, Some, slice_get}
use Rattle.crew_jobs.specs.declared.job.Job.{Job}
use Rattle.crew_trait.specs.declared.reply.Reply.{Reply}
use Rattle.crew_trait.specs.declared.event.CrewEvent.{CrewEvent}
use Rattle.crew_trait.specs.declared.event.CrewEvent.TheVariants.{Started, Ended}
use Rattle.crew_trait.specs.Events.{busy, failure_of}

-- The n-th start after the first `base`, if it succeeds, has the n-th of these jobs. (own)
abbrev pub StartsAre : List Job → ℕ → List CrewEvent → Type 0
StartsAre jobs base [] = Unit {0}
StartsAre jobs base (Started slot job number ∷ events) =
    (base < number) × (slice_get jobs (number - (base + 1)) ≡ Some job) × StartsAre jobs base events
StartsAre jobs base (Ended slot reply number ∷ events) = StartsAre jobs base events

-- Each start takes the least free slot, given the events before these. (own)
abbrev pub TakesLeast : List CrewEvent → List CrewEvent → Type 0
TakesLeast before [] = Unit {0}
TakesLeast before (Started slot job number ∷ events) =
    ((s : ℕ) → s < slot → busy s before ≡ true) × TakesLeast (before ++ Started slot job number ∷ []) events
TakesLeast before (Ended slot reply number ∷ events) = TakesLeast (before ++ Ended slot reply number ∷ []) events

-- Whenever a child ends, at most `window` children are in flight, and exactly that many unless the starts so far are
-- the last of a group; `flying` children are in flight before these events. (own)
abbrev pub Fills : ℕ → (ℕ → Type 0) → ℕ → List CrewEvent → Type 0
Fills window last flying [] = Unit {0}
Fills window last flying (Started slot job number ∷ events) = (flying < window) × Fills window last (flying + 1) events
Fills window last flying (Ended slot reply number ∷ events) =
    (flying ≤ window) × (last number ⊎ (flying ≡ window)) × Fills window last (flying - 1) events

-- This number of starts is that of the last job of a group, after the first `base`. (own)
abbrev pub EndsGroup : ℕ → List (List Job) → ℕ → Type 0
EndsGroup base [] number = ⊥
EndsGroup base (jobs ∷ groups) number = (number ≡ base + length jobs) ⊎ EndsGroup (base + length jobs) groups number

-- How many of these replies are no answers. (own)
abbrev pub failures_in : List Reply → ℕ
failures_in [] = 0
failures_in (reply ∷ replies) = failure_of reply + failures_in replies
