-- The meaning of a list of events.
use Rattle.std.specs.Prelude.{◌≡◌, ℕ, zero, suc, ◌+◌, ◌-◌, ◌==◌, Bool, true, false, List, [], ◌∷◌, ◌++◌, if◌then◌else◌, fold}
use Rattle.crew_trait.specs.declared.reply.Reply.{Reply}
use Rattle.crew_trait.specs.declared.reply.Reply.TheVariants.{Answer, StartRefused, EndRefused}
use Rattle.crew_trait.specs.declared.event.CrewEvent.{CrewEvent}
use Rattle.crew_trait.specs.declared.event.CrewEvent.TheVariants.{Started, Ended}

-- The account of a crew: its events, in order, and the numbers of attempted starts and of refused calls. (own)
pub record Account : Type 0 where
  pub events : List CrewEvent
  pub attempts : ℕ
  pub failures : ℕ

-- The state of a start. (own)
pub data Fate : Type 0 where
  Unstarted : Fate
  Running : (slot : ℕ) → Fate
  Replied : (reply : Reply) → Fate

-- The state of a start after the end of the child in a slot. (own)
abbrev pub ended_by : ℕ → Reply → Fate → Fate
ended_by slot reply Unstarted = Unstarted
ended_by slot reply (Running s) = if s == slot then Replied reply else Running s
ended_by slot reply (Replied r) = Replied r

-- The state of the n-th attempted start after an event. (own)
abbrev pub fate_after : ℕ → Fate → CrewEvent → Fate
fate_after n fate (Started slot job number) = if number == n then Running slot else fate
fate_after n fate (Ended slot reply number) = ended_by slot reply fate

-- The state of the n-th attempted start after these events. (own)
abbrev pub fate_of : ℕ → List CrewEvent → Fate
fate_of n events = fold (fate_after n) Unstarted events

-- The reply to a start in this state: refused if it wasn't taken, and unknown if its child hasn't ended. (own)
abbrev pub reply_in : Fate → Reply
reply_in Unstarted = StartRefused
reply_in (Running slot) = EndRefused
reply_in (Replied reply) = reply

-- The replies to `count` starts after the first `base`. (own)
abbrev pub replies_in : ℕ → ℕ → List CrewEvent → List Reply
replies_in base zero events = []
replies_in base (suc count) events = reply_in (fate_of (base + 1) events) ∷ replies_in (base + 1) count events

-- Whether a child is in flight in the slot after an event. (own)
abbrev pub busy_after : ℕ → Bool → CrewEvent → Bool
busy_after s busy (Started slot job number) = if slot == s then true else busy
busy_after s busy (Ended slot reply number) = if slot == s then false else busy

-- Whether a child is in flight in the slot after these events. (own)
abbrev pub busy : ℕ → List CrewEvent → Bool
busy slot events = fold (busy_after slot) false events

-- Some child is in flight. (own)
pub record IsSomeBusy (events : List CrewEvent) : Type 0 where
  pub slot : ℕ
  pub is_busy : busy slot events ≡ true

-- No child is in flight. (own)
pub record IsIdle (events : List CrewEvent) : Type 0 where
  pub free : (slot : ℕ) → busy slot events ≡ false

-- The number of children in flight after an event. (own)
abbrev pub flying_after : ℕ → CrewEvent → ℕ
flying_after n (Started slot job number) = n + 1
flying_after n (Ended slot reply number) = n - 1

-- The number of children in flight after these events: the starts that were taken, minus the ends. (own)
abbrev pub in_flight : List CrewEvent → ℕ
in_flight events = fold flying_after 0 events

-- The slots without the first that equals this one. (own)
abbrev pub without_slot : ℕ → List ℕ → List ℕ
without_slot s [] = []
without_slot s (x ∷ xs) = if x == s then xs else x ∷ without_slot s xs

-- The slots in use after an event. (own)
abbrev pub slots_after : List ℕ → CrewEvent → List ℕ
slots_after slots (Started slot job number) = slots ++ slot ∷ []
slots_after slots (Ended slot reply number) = without_slot slot slots

-- The slots in use, in the order in which their children were started. (own)
abbrev pub slots_in_flight : List CrewEvent → List ℕ
slots_in_flight events = fold slots_after [] events

-- The number of failures of an end: one, unless it is an answer. (own)
abbrev pub failure_of : Reply → ℕ
failure_of (Answer status text) = 0
failure_of StartRefused = 1
failure_of EndRefused = 1
