-- The slots of a crew of real children, each with a child or without one.
use Rattle.std.specs.Prelude.{◌≡◌, ◌⊎◌, ℕ, ◌==◌, true, List, Option, Some, None, IfSome, All, codes, fold, option_map, slice_index_or, slice_set, if◌then◌else◌}
use Rattle.crew_refusals.specs.Known.{with_cause}
use Rattle.crew_jobs.specs.declared.job.Job.{Job}
use Rattle.crew_launch.specs.Ending.{Answers, IsKept, IsOfEnd}
use Rattle.crew_launch.specs.Launch.{IsOfJob}
use Rattle.crew_launch.specs.Piped.{IsReadThrough, Running}
use Rattle.crew_launch.specs.Reasons.{SaysNoMemory}
use Rattle.crew_trait.specs.Events.{Account}
use Rattle.crew_trait.specs.declared.reply.Reply.{Reply}
use Rattle.crew_trait.specs.declared.reply.Reply.TheVariants.{Answer, StartRefused, EndRefused}
use Rattle.crew_trait.specs.declared.event.CrewEvent.{CrewEvent}
use Rattle.crew_trait.specs.declared.event.CrewEvent.TheVariants.{Started, Ended}

-- A child in flight: the number of its start, and what is left in its pipe, if that is known. (own)
pub record Flying : Type 0 where
  pub number : ℕ
  pub left : Option (List ℕ)

-- A child after its end: the number of its start, and its pipe and its status. (own)
pub record Over : Type 0 where
  pub number : ℕ
  pub running : Running

-- The child of each slot that is in use, the child that ended last, and why starts and ends were
-- refused, by the numbers of their children. (own)
pub record Table : Type 0 where
  pub children : List (Option Flying)
  pub last : Option Over
  pub causes : List (ℕ × Option (List ℕ))

-- A crew of real children: its account, its slots, and the file that it removes before the first
-- start, if that wasn't tried yet. (own)
pub record RealCrew : Type 0 where
  pub account : Account
  pub table : Table
  pub stale : Option (List ℕ)

-- The child of a slot. (own)
abbrev pub child_in : Table → ℕ → Option Flying
child_in table slot = slice_index_or table.children slot None

-- The number of a child, or 0 if there is none. (own)
abbrev pub number_of : Option Flying → ℕ
number_of None = 0
number_of (Some child) = child.number

-- The child of this number is put into a slot. (own)
abbrev pub Starts : Table → Table → ℕ → ℕ → Type 0
Starts old new slot number =
    (left : Option (List ℕ)) × (new ≡ record old {
      children = slice_set old.children slot (Some (record { number = number; left = left }));
    })

-- The cause of a start that is refused: memory ran out for its records, or it is about something of the job. (own)
abbrev pub IsOfStart : Job → Option (List ℕ) → Type 0
IsOfStart job cause = IfSome cause (SaysNoMemory (codes "start")) ⊎ IsOfJob job cause

-- The start of this number is refused, and its cause is added. (own)
abbrev pub RefusesStart : Table → Table → ℕ → Job → Type 0
RefusesStart old new number job =
    (cause : Option (List ℕ)) × IsOfStart job cause
    × (new ≡ record old { causes = with_cause old.causes number cause })

-- The reply to the child of this number is that of this child: its own wait gave the status, and
-- the text is the kept part of what was in its own pipe. In each case it was waited for. (own)
abbrev pub IsEndOf : ℕ → Option Flying → Option Over → Reply → Type 0
IsEndOf number (Some child) (Some over) reply =
    (child.number ≡ number) × (over.number ≡ number) × (over.running.is_awaited ≡ true)
    × Answers reply over.running.status
    (λ text. IsKept child.left text × IsReadThrough over.running.pipe)
IsEndOf number (Some child) None reply = ⊥
IsEndOf number None over reply = ⊥

-- The causes with that of the child of this number, if there is one. (own)
abbrev pub with_told : List (ℕ × Option (List ℕ)) → ℕ → Option (Option (List ℕ))
    → List (ℕ × Option (List ℕ))
with_told entries number None = entries
with_told entries number (Some cause) = with_cause entries number cause

-- An answer to the child of this number adds no cause, and a refused end adds its own. (own)
abbrev pub IsEndTold : ℕ → Reply → List (ℕ × Option (List ℕ)) → List (ℕ × Option (List ℕ)) → Type 0
IsEndTold number (Answer status text) old new = new ≡ old
IsEndTold number StartRefused old new = ⊥
IsEndTold number EndRefused old new =
    (cause : Option (List ℕ)) × IsOfEnd cause × (new ≡ with_cause old number cause)

-- The child of a slot, which has this number, ended with this reply, and is no longer in its slot.
-- (own)
abbrev pub Ends : Table → Table → ℕ → ℕ → Reply → Type 0
Ends old new slot number reply =
    IsEndOf number (child_in old slot) new.last reply
    × (new.children ≡ slice_set old.children slot None)
    × IsEndTold number reply old.causes new.causes

-- The number of the last start in a slot, after one more event. (own)
abbrev pub number_after : ℕ → ℕ → CrewEvent → ℕ
number_after s last (Started slot job number) = if slot == s then number else last
number_after s last (Ended slot reply number) = last

-- The number of the last start in a slot, or 0 if there was none. (own)
abbrev pub number_in : ℕ → List CrewEvent → ℕ
number_in s events = fold (number_after s) 0 events

-- Each of these slots has the child of its last start. A child is known by the number of its start.
-- (own)
abbrev pub HaveChildren : List (Option Flying) → List CrewEvent → List ℕ → Type 0
HaveChildren children events slots =
    All (λ s. option_map (λ c. c.number) (slice_index_or children s None)
    ≡ Some (number_in s events)) slots
