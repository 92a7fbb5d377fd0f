-- The jobs of a group while they are run.
use Rattle.std.specs.Prelude.{◌≡◌, ℕ, ◌∷◌, ◌+◌, ◌<◌, ◌≤◌, ◌⊎◌, Bool, true, false, List, [], ◌++◌, length, fold, Option, Some, None, map, slice_get}
use Rattle.crew_jobs.specs.declared.job.Job.{Job}
use Rattle.crew_trait.specs.declared.reply.Reply.{Reply}
use Rattle.crew_trait.specs.declared.reply.Reply.TheVariants.{StartRefused}
use Rattle.crew_trait.specs.declared.event.CrewEvent.{CrewEvent}
use Rattle.crew_trait.specs.Events.{Account, Fate, Unstarted, Running, Replied, fate_of, busy, IsIdle, replies_in, flying_after, failure_of}
use Rattle.proberun.specs.Starts.{StartsAre, TakesLeast, Fills}

-- The slot holds a job. (own)
abbrev pub is_held : Option (Option ℕ) → Bool
is_held None = false
is_held (Some None) = false
is_held (Some (Some k)) = true

-- Some slot holds a job. (own)
pub record HasHeld (table : List (Option ℕ)) : Type 0 where
  pub slot : ℕ
  pub job : ℕ
  pub at : slice_get table slot ≡ Some (Some job)

-- Every slot below this one holds a job. (own)
pub record HeldBelow (limit : ℕ) (table : List (Option ℕ)) : Type 0 where
  pub each : (s : ℕ) → s < limit → (k : ℕ) × (slice_get table s ≡ Some (Some k))

-- Every slot holds a job. (own)
abbrev pub AllHeld : List (Option ℕ) → Type 0
AllHeld table = HeldBelow (length table) table

-- No slot holds a job. (own)
pub record AllFree (table : List (Option ℕ)) : Type 0 where
  pub each : (s : ℕ) → s < length table → slice_get table s ≡ Some None

-- How many jobs have no reply yet. (own)
abbrev pub open_count : List (Option Reply) → ℕ
open_count [] = 0
open_count (None ∷ rs) = open_count rs + 1
open_count (Some r ∷ rs) = open_count rs

-- How many replies are no answers. (own)
abbrev pub failed_count : List (Option Reply) → ℕ
failed_count [] = 0
failed_count (None ∷ rs) = failed_count rs
failed_count (Some r ∷ rs) = failure_of r + failed_count rs

-- How many slots hold a job. (own)
abbrev pub held_count : List (Option ℕ) → ℕ
held_count [] = 0
held_count (None ∷ table) = held_count table
held_count (Some k ∷ table) = held_count table + 1

-- The end of a child may be waited for: the window is full, or each job was attempted. (own)
abbrev pub MayWait : List (Option ℕ) → ℕ → List Job → Type 0
MayWait table started jobs = AllHeld table ⊎ (started ≡ length jobs)

-- The records of job k, by its fate. (own)
abbrev pub Tracks : Fate → ℕ → ℕ → List (Option Reply) → List (Option ℕ) → Type 0
Tracks Unstarted started k replies table = (k < started → slice_get replies k ≡ Some (Some StartRefused)) × (started ≤ k → slice_get replies k ≡ Some None)
Tracks (Running slot) started k replies table = (k < started) × (slice_get replies k ≡ Some None) × (slice_get table slot ≡ Some (Some k))
Tracks (Replied reply) started k replies table = (k < started) × (slice_get replies k ≡ Some (Some reply))

-- The first `started` jobs were attempted since the account `before`; the table has the jobs in flight. (own)
pub record Serving (before : Account) (jobs : List Job) (started : ℕ) (replies : List (Option Reply)) (table : List (Option ℕ)) (now : Account) : Type 0 where
  pub since : List CrewEvent
  pub events : now.events ≡ before.events ++ since
  pub attempts : now.attempts ≡ before.attempts + started
  pub within : started ≤ length jobs
  pub each : length replies ≡ length jobs
  pub tracks : (k : ℕ) → k < length jobs → Tracks (fate_of (before.attempts + k + 1) since) started k replies table
  pub holds : (s k : ℕ) → slice_get table s ≡ Some (Some k) → (k < started) × (fate_of (before.attempts + k + 1) since ≡ Running s)
  pub slots : (s : ℕ) → busy s now.events ≡ is_held (slice_get table s)
  pub starts : StartsAre jobs before.attempts since
  pub least : TakesLeast before.events since
  pub flying : (n : ℕ) → fold flying_after n since ≡ n + held_count table
  pub fills : Fills (length table) (λ number. number ≡ before.attempts + length jobs) 0 since
  pub failures : now.failures ≡ before.failures + failed_count replies
  pub few : failed_count replies + held_count table ≤ started

-- All jobs of the group have their reply. (own)
pub record Served (window : ℕ) (before : Account) (jobs : List Job) (replies : List (Option Reply)) (now : Account) : Type 0 where
  pub since : List CrewEvent
  pub events : now.events ≡ before.events ++ since
  pub attempts : now.attempts ≡ before.attempts + length jobs
  pub replied : replies ≡ map Some (replies_in before.attempts (length jobs) since)
  pub starts : StartsAre jobs before.attempts since
  pub least : TakesLeast before.events since
  pub idle : IsIdle now.events
  pub landed : (n : ℕ) → fold flying_after n since ≡ n
  pub fills : Fills window (λ number. number ≡ before.attempts + length jobs) 0 since
  pub failures : now.failures ≡ before.failures + failed_count replies
  pub few : failed_count replies ≤ length jobs
