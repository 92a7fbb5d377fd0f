-- Replies that are taken from the records of an earlier run, and the account of a run that takes some.
use Rattle.std.specs.Prelude.{◌≡◌, ℕ, ◌+◌, ◌-◌, ◌^◌, ◌≤◌, ◌==◌, Bool, true, false, List, [], ◌∷◌, ◌++◌, None, Some, drop, length, map, take, if◌then◌else◌}
use Rattle.crew_jobs.specs.declared.job.Job.{Job}
use Rattle.crew_trait.specs.Events.{Account, busy}
use Rattle.crew_trait.specs.declared.reply.Reply.{Reply}
use Rattle.crew_trait.specs.declared.event.CrewEvent.{CrewEvent}
use Rattle.crew_trait.specs.declared.event.CrewEvent.TheVariants.{Started, Ended}
use Rattle.answers_text.specs.declared.record.Record.{Record}
use Rattle.crew_kept.specs.Links.{after_asked, after_taken, is_refused}
use Rattle.crew_kept.specs.Records.{after_start, answer_of}
use Rattle.crew_kept.specs.declared.state.State.{State}
use Rattle.crew_kept.specs.declared.state.State.TheVariants.{Open, Lacked}
use Rattle.crew_kept.specs.declared.placed.Step.{Step}
use Rattle.crew_kept.specs.declared.placed.Step.TheVariants.{Happened, Refusal}
use Rattle.crew_kept.specs.declared.placed.Placed.{Placed}
use Rattle.crew_kept.specs.declared.placed.Waiting.{Waiting}

-- The starts of an event: one, or none if it is the end of a child. (own)
abbrev pub starts_of : CrewEvent → ℕ
starts_of (Started slot job number) = 1
starts_of (Ended slot reply number) = 0

-- The starts of a step: those of its event, or the one that was refused. (own)
abbrev pub starts_in : Step → ℕ
starts_in (Happened event) = starts_of event
starts_in (Refusal number) = 1

-- The events of a step. A start that was refused has none. (own)
abbrev pub events_in : Step → List CrewEvent
events_in (Happened event) = event ∷ []
events_in (Refusal number) = []

-- The refusals of a step. (own)
abbrev pub refusals_in : Step → ℕ
refusals_in (Happened event) = 0
refusals_in (Refusal number) = 1

-- An event of the crew inside, after so many starts that it didn't see. (own)
abbrev pub raised : ℕ → CrewEvent → CrewEvent
raised more (Started slot job number) = Started slot job (number + more)
raised more (Ended slot reply number) = Ended slot reply (number + more)

-- The events of the crew inside from this place on, and those of replies that were taken among them, each at its place. (own)
abbrev pub joined : ℕ → ℕ → List Placed → List CrewEvent → List CrewEvent
joined at more [] events = map (raised more) events
joined at more (p ∷ ps) events =
    map (raised more) (take (p.place - at) events) ++ (events_in p.step ++ joined p.place (more + starts_in p.step) ps (drop (p.place - at) events))

-- The events of the crew inside from this place on, with their numbers in the run. (own)
abbrev pub asked_in : ℕ → ℕ → List Placed → List CrewEvent → List CrewEvent
asked_in at more [] events = map (raised more) events
asked_in at more (p ∷ ps) events = map (raised more) (take (p.place - at) events) ++ asked_in p.place (more + starts_in p.step) ps (drop (p.place - at) events)

-- The number of starts that the crew inside didn't see: they were taken or refused. (own)
abbrev pub own_starts : List Placed → ℕ
own_starts [] = 0
own_starts (p ∷ ps) = starts_in p.step + own_starts ps

-- The number of starts that were refused here. The crew inside saw none of them. (own)
abbrev pub own_refusals : List Placed → ℕ
own_refusals [] = 0
own_refusals (p ∷ ps) = refusals_in p.step + own_refusals ps

-- The account of a run: that of the crew inside, with the replies that were taken at their numbers, and with the starts that were
-- refused here. (own)
abbrev pub account_with : List Placed → Account → Account
account_with placed a =
    record { events = joined 0 0 placed a.events; attempts = a.attempts + own_starts placed; failures = a.failures + own_refusals placed }

-- The events of the crew inside, with their numbers in the run. (own)
abbrev pub asked_with : List Placed → Account → List CrewEvent
asked_with placed a = asked_in 0 0 placed a.events

-- What was done of each start, after so many of them. `waiting` are the replies that weren't returned yet, and `events` those of the
-- crew inside. The flag says whether the link that was started last was taken, and the state how far replies are taken. Each start
-- for which the records have a reply is taken. Any other one is given to the crew inside, which starts or refuses it. Only if it may
-- run a program, and the last link was taken, it is refused here. Memory may run out at any time, and then nothing more is taken.
-- (own)
pub data AreTaken (records : List Record) : List Placed → List Waiting → List CrewEvent → ℕ → Bool → State → Type 0 where
  nothing_yet : AreTaken records [] [] [] 0 false Open
  lacked : {placed : List Placed} {waiting : List Waiting} {events : List CrewEvent} {linked : Bool} (attempts : ℕ) (state : State) → AreTaken records placed waiting events attempts linked state
      → AreTaken records placed waiting events attempts linked Lacked
  taken : {placed : List Placed} {waiting : List Waiting} {events : List CrewEvent} (linked : Bool) (state : State) (place slot attempts : ℕ) (job : Job) (reply : Reply)
      → answer_of state records (attempts + 1) job ≡ Some reply
      → AreTaken records placed waiting events attempts linked state
      → AreTaken records (placed ++ record { place = place; step = Happened (Started slot job (attempts + 1)) } ∷ [])
      (waiting ++ record { slot = slot; taken = reply } ∷ []) events (attempts + 1) (after_taken linked job) state
  asked : {placed : List Placed} {waiting : List Waiting} (events : List CrewEvent) (linked : Bool) (state : State) (slot number attempts : ℕ) (job : Job)
      → answer_of state records (attempts + 1) job ≡ None → is_refused linked job ≡ false
      → AreTaken records placed waiting events attempts linked state
      → AreTaken records placed waiting (events ++ Started slot job number ∷ []) (attempts + 1) (after_asked linked job) (after_start state records (attempts + 1) job)
  not_started : {placed : List Placed} {waiting : List Waiting} {events : List CrewEvent} {linked : Bool} (state : State) (attempts : ℕ) (job : Job)
      → answer_of state records (attempts + 1) job ≡ None → is_refused linked job ≡ false
      → AreTaken records placed waiting events attempts linked state
      → AreTaken records placed waiting events (attempts + 1) linked (after_start state records (attempts + 1) job)
  refused : {placed : List Placed} {waiting : List Waiting} {events : List CrewEvent} (linked : Bool) (state : State) (place attempts : ℕ) (job : Job)
      → answer_of state records (attempts + 1) job ≡ None → is_refused linked job ≡ true
      → AreTaken records placed waiting events attempts linked state
      → AreTaken records (placed ++ record { place = place; step = Refusal (attempts + 1) } ∷ []) waiting events (attempts + 1) false (after_start state records (attempts + 1) job)
  returned : {placed : List Placed} {events : List CrewEvent} {linked : Bool} {state : State} (waiting : List Waiting) (place slot attempts : ℕ) (reply : Reply)
      → AreTaken records placed (waiting ++ record { slot = slot; taken = reply } ∷ []) events attempts linked state
      → AreTaken records (placed ++ record { place = place; step = Happened (Ended slot reply attempts) } ∷ []) waiting events attempts linked state
  ended : {placed : List Placed} {waiting : List Waiting} {linked : Bool} {state : State} (events : List CrewEvent) (slot number attempts : ℕ) (reply : Reply)
      → AreTaken records placed waiting events attempts linked state
      → AreTaken records placed waiting (events ++ Ended slot reply number ∷ []) attempts linked state

-- How often a slot has a reply that was taken. (own)
abbrev pub times : ℕ → List Waiting → ℕ
times slot [] = 0
times slot (w ∷ ws) = (if w.slot == slot then 1 else 0) + times slot ws

-- Each slot in use has a child of the crew inside, or one reply that was taken. (own)
pub record SharesSlots (outer inner : List CrewEvent) (waiting : List Waiting) : Type 0 where
  pub each : (slot : ℕ) → (if busy slot inner then 1 else 0) + times slot waiting ≡ (if busy slot outer then 1 else 0)

-- No step is placed after more events than the crew inside has had. (own)
abbrev pub ArePlaced : ℕ → ℕ → List Placed → Type 0
ArePlaced at end [] = at ≤ end
ArePlaced at end (p ∷ ps) = (at ≤ p.place) × ArePlaced p.place end ps

-- How often a number is in a list. (own)
abbrev pub how_often : ℕ → List ℕ → ℕ
how_often slot [] = 0
how_often slot (s ∷ ss) = (if s == slot then 1 else 0) + how_often slot ss

-- Each child ends once, so there are at most twice as many events as starts. `slots` has each slot in use. (own)
pub record EndsOnce (account : Account) : Type 0 where
  pub slots : List ℕ
  pub in_use : (slot : ℕ) → busy slot account.events ≡ true → 1 ≤ how_often slot slots
  pub few : length account.events + length slots ≤ account.attempts + account.attempts

-- What contracts see of the crew: the crew inside, the records, the starts that were taken or refused with the ends that were
-- returned, the replies that wait, whether the link that was started last was taken, and how far replies are taken. (own)
pub record Keeping (C : Type 0) : Type 0 where
  pub crew : C
  pub records : List Record
  pub placed : List Placed
  pub waiting : List Waiting
  pub linked : Bool
  pub state : State

-- What is known of the records. (own)
pub record Supplied : Type 0 where
  pub records : List Record
  pub state : State

-- The invariant: what is counted of the crew inside, and what was done of each start. (own)
pub record IsKeeping (account : Account) (records : List Record) (placed : List Placed) (waiting : List Waiting) (linked : Bool) (state : State) (events attempts : ℕ) : Type 0 where
  pub counted : events ≡ length account.events
  pub tried : attempts ≡ account.attempts + own_starts placed
  pub few : attempts ≤ 2 ^ 62
  pub ends_once : EndsOnce account
  pub in_place : ArePlaced 0 (length account.events) placed
  pub shares : SharesSlots (joined 0 0 placed account.events) account.events waiting
  pub are_taken : AreTaken records placed waiting account.events attempts linked state
