-- A crew in memory as a state machine: the effect of each call.
use Rattle.std.specs.Prelude.{ℕ, ◌+◌, ◌-◌, ◌==◌, Bool, true, false, not, List, [], ◌∷◌, ◌++◌, length, remove, slice_index_or, unwrap_or, position, Option, Some, None, if◌then◌else◌}
use Rattle.crew_jobs.specs.declared.job.Job.{Job}
use Rattle.crew_trait.specs.declared.reply.Reply.{Reply}
use Rattle.crew_trait.specs.declared.reply.Reply.TheVariants.{Answer, StartRefused, EndRefused}
use Rattle.crew_trait.specs.declared.event.CrewEvent.TheVariants as happens
use Rattle.crew.specs.declared.event.Event.{Event}
use Rattle.crew.specs.declared.event.Event.TheVariants.{Started, Refused, Ended}
use Rattle.crew.specs.declared.order.Order.{Order}
use Rattle.crew.specs.declared.order.Order.TheVariants.{Oldest, Youngest, Slots}
use Rattle.crew.specs.Child.{Child}
use Rattle.crew_trait.specs.Events.{Account, failure_of}

-- The state: the account, the calls that are listed, the replies to the starts to come, the children in flight in the
-- order of their starts, and the order in which they end. (own)
pub record Scripted : Type 0 where
  pub account : Account
  pub listed : List Event
  pub replies : List Reply
  pub children : List Child
  pub order : Order

-- The reply refuses its start. (own)
abbrev pub is_start_refused : Reply → Bool
is_start_refused (Answer status text) = false
is_start_refused StartRefused = true
is_start_refused EndRefused = false

-- Whether the next start is taken, by the first reply that is left. (own)
abbrev pub is_taken : List Reply → Bool
is_taken [] = false
is_taken (reply ∷ rest) = not (is_start_refused reply)

-- The account after a start that was taken. (own)
abbrev pub with_taken : ℕ → Job → Account → Account
with_taken slot job a =
    record { events = a.events ++ happens.Started slot job (a.attempts + 1) ∷ []; attempts = a.attempts + 1; failures = a.failures }

-- The account after a start that was refused. (own)
abbrev pub with_refused : Account → Account
with_refused a = record { events = a.events; attempts = a.attempts + 1; failures = a.failures + 1 }

-- The account after the end of a child. (own)
abbrev pub with_end : Child → Account → Account
with_end child a =
    record { events = a.events ++ happens.Ended child.slot child.reply a.attempts ∷ []; attempts = a.attempts; failures = a.failures + failure_of child.reply }

-- The state after a start, by the replies that are left. (own)
abbrev pub started_with : List Reply → ℕ → Job → Scripted → Scripted
started_with [] slot job m = record m { account = with_refused m.account }
started_with (reply ∷ rest) slot job m =
    if is_start_refused reply
    then record m { account = with_refused m.account; listed = m.listed ++ Refused slot ∷ []; replies = rest }
    else record m {
      account = with_taken slot job m.account;
      listed = m.listed ++ Started slot ∷ [];
      replies = rest;
      children = m.children ++ record { slot = slot; reply = reply } ∷ [];
    }

-- The state after a start: without a reply it is refused, and isn't listed. (own)
unfoldable pub after_start : ℕ → Job → Scripted → Scripted
after_start slot job m = started_with m.replies slot job m

-- The index of the child in a slot, or of the oldest child if the slot has none or none is given. (own)
abbrev pub place_in_flight : Option ℕ → List Child → ℕ
place_in_flight None children = 0
place_in_flight (Some slot) children = unwrap_or (position (λ child. child.slot == slot) children) 0

-- The first slot of a list, if any. (own)
abbrev pub first_of : List ℕ → Option ℕ
first_of [] = None
first_of (slot ∷ rest) = Some slot

-- The slots of a list after the first. (own)
abbrev pub others_of : List ℕ → List ℕ
others_of [] = []
others_of (slot ∷ rest) = rest

-- The index of the child that ends next. (own)
abbrev pub place : Order → List Child → ℕ
place Oldest children = 0
place Youngest children = length children - 1
place (Slots slots) children = place_in_flight (first_of slots) children

-- The order after an end, which removes the first slot of a list. (own)
abbrev pub order_after : Order → Order
order_after Oldest = Oldest
order_after Youngest = Youngest
order_after (Slots slots) = Slots (others_of slots)

-- A child for an index that no child has. (own)
abbrev pub no_child : Child
no_child = record { slot = 0; reply = EndRefused }

-- The child that ends next. (own)
unfoldable pub ending : Scripted → Child
ending m = slice_index_or m.children (place m.order m.children) no_child

-- The state after the end of that child. (own)
unfoldable pub after_next : Scripted → Scripted
after_next m =
    record {
      account = with_end (ending m) m.account;
      listed = m.listed ++ Ended (ending m).slot ∷ [];
      replies = m.replies;
      children = remove m.children (place m.order m.children);
      order = order_after m.order;
    }
