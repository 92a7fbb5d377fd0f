-- How a list of slots relates to the events of a crew.
use Rattle.std.specs.Prelude.{◌≡◌, ◌≢◌, ℕ, ◌+◌, ◌*◌, ◌≤◌, ◌==◌, List, [], ◌∷◌, length, map, if◌then◌else◌}
use Rattle.crew_trait.specs.declared.reply.Reply.{Reply}
use Rattle.crew_trait.specs.declared.reply.Reply.TheVariants.{StartRefused}
use Rattle.crew_trait.specs.declared.event.CrewEvent.{CrewEvent}
use Rattle.crew.specs.declared.event.Event.{Event}
use Rattle.crew.specs.Child.{Child}
use Rattle.crew_trait.specs.Events.{busy}

-- How often the slot occurs in the list. (own)
abbrev pub times : ℕ → List ℕ → ℕ
times s [] = 0
times s (x ∷ xs) = (if x == s then 1 else 0) + times s xs

-- The list contains each busy slot once, and no other slot. (own)
pub record ListsBusy (slots : List ℕ) (events : List CrewEvent) : Type 0 where
  pub each : (s : ℕ) → times s slots ≡ (if busy s events then 1 else 0)

-- No child has a reply that refuses its start. (own)
abbrev pub AllStarted : List Child → Type 0
AllStarted [] = Unit {0}
AllStarted (c ∷ cs) = (c.reply ≢ StartRefused) × AllStarted cs

-- The invariant of a crew in memory: its children are in the busy slots, there is room for every event that its replies
-- allow, and no fewer calls are listed than there are events. (own)
pub record IsReady (replies : List Reply) (children : List Child) (events : List CrewEvent) (listed : List Event) (children_most events_most listed_most : ℕ) : Type 0 where
  pub busy_slots : ListsBusy (map (λ c. c.slot) children) events
  pub started : AllStarted children
  pub children_fit : length children + length replies ≤ children_most
  pub events_fit : length events + length children + 2 * length replies ≤ events_most
  pub listed_fit : length listed + length children + 2 * length replies ≤ listed_most
  pub all_listed : length events ≤ length listed
