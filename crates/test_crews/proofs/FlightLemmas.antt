-- How many children are in flight, for callers that start and end them in loops.
use Rattle.std.proofs.Common.{◌≡◌, ◌≢◌, ℕ, ◌+◌, ◌<◌, ◌≤◌, true, false, cond, eqb, List, [], ◌∷◌, ◌++◌, length, refl, sym, ap, subst, ◌∙◌, arith, length-append}
use Rattle.std.proofs.lemmas.Bool.Decides.{nat_tests}
use Rattle.std.proofs.lemmas.List.Sums.{fold-append}
use Rattle.crew_jobs.specs.declared.job.Job.{Job}
use Rattle.crew_trait.specs.declared.reply.Reply.{Reply}
use Rattle.crew_trait.specs.declared.reply.Reply.TheVariants.{Answer, StartRefused, EndRefused}
use Rattle.crew_trait.specs.declared.event.CrewEvent.{CrewEvent}
use Rattle.crew_trait.specs.declared.event.CrewEvent.TheVariants.{Started, Ended}
use Rattle.crew_trait.specs.Events.{busy, busy_after, IsSomeBusy, failure_of}
use Rattle.crew.specs.Sound.{ListsBusy}
use Rattle.crew.proofs.SlotLemmas.{lists_none, lists_start, lists_left, lists_busy}

-- so many slots are busy
pub record Flies (n : ℕ) (es : List CrewEvent) : Type 0 where
  pub slots : List ℕ
  pub busy_slots : ListsBusy slots es
  pub count : length slots ≡ n

pub flies_none : (es : List CrewEvent) → es ≡ [] → Flies 0 es
flies_none es is = record { slots = []; busy_slots = lists_none [] es refl is; count = refl }

pub flies_start : (n m : ℕ) (es es' : List CrewEvent) (slot : ℕ) (job : Job) (number : ℕ) → Flies n es → busy slot es ≡ false → es' ≡ es ++ Started slot job number ∷ [] → m ≡ n + 1 → Flies m es'
flies_start n m es es' slot job number h free is more =
    record {
      slots = h.slots ++ slot ∷ [];
      busy_slots = lists_start h.slots (h.slots ++ slot ∷ []) es es' slot job number h.busy_slots free refl is;
      count = length-append h.slots (slot ∷ []) ∙ ap (λ k. k + 1) h.count ∙ sym more;
    }

-- a refused start
pub flies_same : (n m : ℕ) (es es' : List CrewEvent) → Flies n es → es' ≡ es → m ≡ n → Flies m es'
flies_same n m es es' h is same = subst (λ k. Flies k es') (sym same) (subst (λ events. Flies n events) (sym is) h)

pub free_same : (es es' : List CrewEvent) (slot : ℕ) → ((s : ℕ) → slot ≤ s → busy s es ≡ false) → es' ≡ es → (s : ℕ) → slot + 1 ≤ s → busy s es' ≡ false
free_same es es' slot free is s above = ap (busy s) is ∙ free s (omega arith)

pub flies_end : (n m : ℕ) (es es' : List CrewEvent) (slot : ℕ) (reply : Reply) (number : ℕ) → Flies n es → n ≡ m + 1 → busy slot es ≡ true → es' ≡ es ++ Ended slot reply number ∷ [] → Flies m es'
flies_end n m es es' slot reply number h more was is =
    let left = lists_left h.slots es es' slot reply number h.busy_slots was is in
    record { slots = left.rest; busy_slots = left.lists; count = let shorter = left.shorter in omega (arith, h.count) }

some_first : (xs : List ℕ) (es : List CrewEvent) → ListsBusy xs es → 0 < length xs → IsSomeBusy es
some_first [] es h some = absurd (omega arith)
some_first (x ∷ xs) es h some = record { slot = x; is_busy = lists_busy (x ∷ xs) es 0 x h (omega arith) refl }

pub flies_some : (n : ℕ) (es : List CrewEvent) → Flies n es → 0 < n → IsSomeBusy es
flies_some n es h some = some_first h.slots es h.busy_slots (omega (arith, h.count))

-- a start leaves the other slots as they are
pub others_stay : (es es' : List CrewEvent) (slot s : ℕ) (job : Job) (number : ℕ) → slot ≢ s → es' ≡ es ++ Started slot job number ∷ [] → busy s es' ≡ busy s es
others_stay es es' slot s job number other is =
    let miss : eqb slot s ≡ false = grind (arith, nat_tests) in
    ap (busy s) is ∙ fold-append (busy_after s) false es (Started slot job number ∷ []) ∙ ap (λ b. cond b true (busy s es)) miss

pub free_after : (es es' : List CrewEvent) (slot : ℕ) (job : Job) (number : ℕ) → ((s : ℕ) → slot ≤ s → busy s es ≡ false) → es' ≡ es ++ Started slot job number ∷ [] → (s : ℕ) → slot + 1 ≤ s → busy s es' ≡ false
free_after es es' slot job number free is s above =
    let other : slot ≢ s = omega arith in
    others_stay es es' slot s job number other is ∙ free s (omega arith)

pub failure_most : (reply : Reply) → failure_of reply ≤ 1
failure_most (Answer status text) = omega arith
failure_most StartRefused = omega arith
failure_most EndRefused = omega arith
