-- The counts of a watched crew after one more event.
use Rattle.std.proofs.Common.{◌≡◌, ℕ, ◌+◌, true, false, cond, eqb, List, [], ◌∷◌, ◌++◌, length, refl, sym, ap, ◌∙◌, arith}
use Rattle.std.proofs.lemmas.Bool.Decides.{nat_tests}
use Rattle.std.proofs.lemmas.List.{length_push}
use Rattle.std.proofs.lemmas.List.Sums.{fold-append}
use Rattle.crew_jobs.specs.declared.job.Job.{Job}
use Rattle.crew_trait.specs.declared.reply.Reply.{Reply}
use Rattle.crew_trait.specs.declared.event.CrewEvent.{CrewEvent}
use Rattle.crew_trait.specs.declared.event.CrewEvent.TheVariants.{Started, Ended}
use Rattle.crew_trait.specs.Events.{Account, busy, IsIdle}
use Rattle.crew.specs.Sound.{times}
use Rattle.crew.proofs.SlotLemmas.{one_if, lists_none, lists_start, lists_left}
use Rattle.crew.specs.Counting.{started_after, started_in}
use Rattle.crew_progress.specs.Progress.{ended_after, subject_after, ended_in, subject_in, line_of, text_of, text_after, erasure, wrapping_off, wrapping_on}
use Rattle.crew_progress.specs.Subject.{subject_of}
use Rattle.crew_progress.specs.Watch.{IsCounted}

-- An account that has no event.
pub counted_none : (account : Account) (command : List ℕ) → account.events ≡ [] → account.attempts ≡ 0 → command ≡ [] → IsCounted account 0 0 0 command
counted_none account command none tried empty = record {
  starts = ap started_in none;
  ends = ap ended_in none;
  latest = ap subject_in none ∙ sym empty;
  tried = tried;
  taken = omega arith;
  slots = [];
  lists = lists_none [] account.events refl none;
  flying = refl;
}

-- After a start that is taken.
pub counted_start : (before now : Account) (attempts started ended : ℕ) (command next : List ℕ) (slot : ℕ) (job : Job) → IsCounted before attempts started ended command
    → busy slot before.events ≡ false → now.attempts ≡ before.attempts + 1 → now.events ≡ before.events ++ Started slot job (before.attempts + 1) ∷ [] → next ≡ subject_of job
    → IsCounted now (attempts + 1) (started + 1) ended next
counted_start before now attempts started ended command next slot job h free number events next_is =
    let event : CrewEvent = Started slot job (before.attempts + 1) in
    record {
      starts = ap started_in events ∙ fold-append started_after 0 before.events (event ∷ []) ∙ ap (λ n. n + 1) h.starts;
      ends = ap ended_in events ∙ fold-append ended_after 0 before.events (event ∷ []) ∙ h.ends;
      latest = ap subject_in events ∙ fold-append subject_after [] before.events (event ∷ []) ∙ sym next_is;
      tried = number ∙ ap (λ n. n + 1) h.tried;
      taken = let a = h.taken in omega arith;
      slots = h.slots ++ slot ∷ [];
      lists = lists_start h.slots _ before.events now.events slot job _ h.lists free refl events;
      flying = let f = h.flying in omega (arith, length_push h.slots slot);
    }

-- After the end of a child that is in flight.
pub counted_end : (before now : Account) (attempts started ended : ℕ) (command : List ℕ) (slot : ℕ) (reply : Reply) → IsCounted before attempts started ended command
    → busy slot before.events ≡ true → now.attempts ≡ before.attempts → now.events ≡ before.events ++ Ended slot reply before.attempts ∷ []
    → IsCounted now attempts started (ended + 1) command
counted_end before now attempts started ended command slot reply h was number events =
    let event : CrewEvent = Ended slot reply before.attempts in
    let left = lists_left h.slots before.events now.events slot reply _ h.lists was events in
    record {
      starts = ap started_in events ∙ fold-append started_after 0 before.events (event ∷ []) ∙ h.starts;
      ends = ap ended_in events ∙ fold-append ended_after 0 before.events (event ∷ []) ∙ ap (λ n. n + 1) h.ends;
      latest = ap subject_in events ∙ fold-append subject_after [] before.events (event ∷ []) ∙ h.latest;
      tried = number ∙ h.tried;
      taken = h.taken;
      slots = left.rest;
      lists = left.lists;
      flying = let f = h.flying in let s = left.shorter in omega arith;
    }

no_slots : (slots : List ℕ) → ((slot : ℕ) → times slot slots ≡ 0) → length slots ≡ 0
no_slots [] none = refl
no_slots (x ∷ xs) none =
    let test : eqb x x ≡ true = grind (arith, nat_tests) in
    let one : one_if (eqb x x) ≡ 1 = ap one_if test in
    absurd (let n = none x in omega (arith, one))

-- If no child is in flight, what is written only erases the line.
pub gone : (account : Account) (attempts started ended : ℕ) (command : List ℕ) → IsCounted account attempts started ended command → IsIdle account.events → text_after account.events ≡ erasure
unfolding text_of
gone account attempts started ended command h idle =
    let empty = no_slots h.slots (λ slot. h.lists.each slot ∙ ap one_if (idle.free slot)) in
    let same : ended ≡ started = let f = h.flying in omega arith in
    let equal : ended_in account.events ≡ started_in account.events = h.ends ∙ same ∙ sym h.starts in
    let test : eqb (ended_in account.events) (started_in account.events) ≡ true = grind (arith, nat_tests) in
    ap (λ b. erasure ++ cond b [] (wrapping_off ++ line_of (started_in account.events) (ended_in account.events) (subject_in account.events) ++ wrapping_on)) test
