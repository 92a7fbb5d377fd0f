-- A crew around a crew, which refuses one call.
use Rattle.std.specs.Prelude.{◌≡◌, ℕ, ◌+◌, ◌-◌, ◌*◌, ◌^◌, ◌≤◌, ◌==◌, Bool, true, false, List, [], ◌∷◌, ◌++◌, length, take, drop, map, is_some, Option, None, Some, ⊤, if◌then◌else◌}
use Rattle.crew_trait.specs.declared.reply.Reply.TheVariants.{EndRefused}
use Rattle.crew_trait.specs.declared.event.CrewEvent.{CrewEvent}
use Rattle.crew_trait.specs.declared.event.CrewEvent.TheVariants.{Started, Ended}
use Rattle.crew.specs.declared.fused.FuseKind.{FuseKind}
use Rattle.crew.specs.declared.fused.FuseKind.TheVariants.{Start, End}
use Rattle.crew_trait.specs.Events.{Account, failure_of}
use Rattle.crew.specs.Sound.{ListsBusy}

-- The events before the last `later`. (own)
abbrev pub before : ℕ → List CrewEvent → List CrewEvent
before later events = take (length events - later) events

-- The last `later` events. (own)
abbrev pub since : ℕ → List CrewEvent → List CrewEvent
since later events = drop (length events - later) events

-- An event after a start that the crew inside didn't see: its number is one higher. (own)
abbrev pub one_higher : CrewEvent → CrewEvent
one_higher (Started slot job number) = Started slot job (number + 1)
one_higher (Ended slot reply number) = Ended slot reply (number + 1)

-- An end that is refused. (own)
abbrev pub refused_end : CrewEvent → CrewEvent
refused_end (Started slot job number) = Started slot job number
refused_end (Ended slot reply number) = Ended slot EndRefused number

-- The failures that this adds: one, unless the crew inside refused the end as well. (own)
abbrev pub added_failure : CrewEvent → ℕ
added_failure (Started slot job number) = 0
added_failure (Ended slot reply number) = 1 - failure_of reply

-- The events, with the last one refused. (own)
abbrev pub last_refused : List CrewEvent → List CrewEvent
last_refused [] = []
last_refused (x ∷ []) = refused_end x ∷ []
last_refused (x ∷ y ∷ xs) = x ∷ last_refused (y ∷ xs)

-- The failures that this adds. (own)
abbrev pub last_added : List CrewEvent → ℕ
last_added [] = 0
last_added (x ∷ []) = added_failure x
last_added (x ∷ y ∷ xs) = last_added (y ∷ xs)

-- The account if a start was refused, which the crew inside didn't see, and it has had `later` events since then. (own)
abbrev pub with_start_refused : ℕ → Account → Account
with_start_refused later a =
    record {
      events = before later a.events ++ map one_higher (since later a.events);
      attempts = a.attempts + 1;
      failures = a.failures + 1;
    }

-- The account if an end was refused, and the crew inside has had `later` events since then. (own)
abbrev pub with_end_refused : ℕ → Account → Account
with_end_refused later a =
    record {
      events = last_refused (before later a.events) ++ since later a.events;
      attempts = a.attempts;
      failures = a.failures + last_added (before later a.events);
    }

-- The account, from that of the crew inside: the same, until a call is refused. (own)
abbrev pub fused : FuseKind → Option ℕ → Account → Account
fused kind None a = a
fused Start (Some later) a = with_start_refused later a
fused End (Some later) a = with_end_refused later a

-- The crew inside, and the kind of the call to refuse. `left` counts the calls of that kind up to and including that one,
-- or is 0 if none is to be refused. If one was refused, `later` counts the events of the crew inside since then. (own)
pub record WithFuse (C : Type 0) : Type 0 where
  pub inner : C
  pub kind : FuseKind
  pub left : ℕ
  pub later : Option ℕ

-- Its account, by the account of the crew inside. (own)
abbrev pub account_of : {C : Type 0} → (C → Account) → WithFuse C → Account
account_of account f = fused f.kind f.later (account f.inner)

-- Whether two kinds are the same. (own)
abbrev pub is_same : FuseKind → FuseKind → Bool
is_same Start Start = true
is_same Start End = false
is_same End Start = false
is_same End End = true

-- Whether a call is the one to refuse. (own)
abbrev pub is_due : FuseKind → FuseKind → ℕ → Bool
is_due call kind left = if is_same call kind then left == 1 else false

-- Whether the crew inside numbers its children otherwise, because it didn't see a start. (own)
abbrev pub is_unseen : FuseKind → Option ℕ → Bool
is_unseen Start later = is_some later
is_unseen End later = false

-- What is known of why the child of a number was refused, from what the crew inside knows. (own)
abbrev pub known_of : {C : Type 0} → (C → ℕ → Option (List ℕ)) → WithFuse C → ℕ → Option (List ℕ)
known_of known f child = if is_unseen f.kind f.later then None else known f.inner child

-- `left` after a call. (own)
abbrev pub left_after : FuseKind → FuseKind → ℕ → ℕ
left_after call kind left = if is_same call kind then left - 1 else left

-- `later` after an event of the crew inside. (own)
abbrev pub counted : Option ℕ → Option ℕ
counted None = None
counted (Some later) = Some (later + 1)

-- `later` after a call, by whether it is the one to refuse, and whether it was an event of the crew inside. (own)
abbrev pub later_after : Bool → Bool → Option ℕ → Option ℕ
later_after due happened later = if due then Some 0 else if happened then counted later else later

-- The events since the refused call, or 0 if there was none. (own)
abbrev pub later_of : Option ℕ → ℕ
later_of None = 0
later_of (Some later) = later

-- If a call was refused, no other is to be refused. (own)
abbrev pub IsSpent : Option ℕ → ℕ → Type 0
IsSpent None left = ⊤
IsSpent (Some later) left = left ≡ 0

-- The invariant: at most one call is refused, and the crew inside has had at most two events since then for each start.
-- (own)
pub record IsCounted (left : ℕ) (later : Option ℕ) (a : Account) : Type 0 where
  pub slots : List ℕ
  pub lists : ListsBusy slots a.events
  pub fit : later_of later + length slots ≤ 2 * a.attempts
  pub few : a.attempts ≤ 2 ^ 62
  pub spent : IsSpent later left
