-- One more event.
use Rattle.std.proofs.Common.{◌≡◌, ℕ, ◌+◌, ◌-◌, ◌<◌, ◌≤◌, true, false, cond, eqb, List, [], ◌∷◌, ◌++◌, length, fold, Some, refl, sym, ap, ◌∙◌, subst, ⊎_elim, inl, inr, arith, append_assoc, length-append, ◌⊎◌}
use Rattle.std.specs.Prelude.{slice_get}
use Rattle.std.proofs.lemmas.List.{append-nil}
use Rattle.std.proofs.lemmas.List.Sums.{fold-append}
use Rattle.std.proofs.lemmas.Bool.Decides.{nat_tests}
use Rattle.crew_jobs.specs.declared.job.Job.{Job}
use Rattle.crew_trait.specs.declared.reply.Reply.{Reply}
use Rattle.meaning.specs.Play.{all_jobs}
use Rattle.crew_trait.specs.declared.event.CrewEvent.{CrewEvent}
use Rattle.crew_trait.specs.declared.event.CrewEvent.TheVariants.{Started, Ended}
use Rattle.crew_trait.specs.Events.{Fate, Unstarted, Running, Replied, fate_after, fate_of, ended_by, busy_after, busy, flying_after}
use Rattle.proberun.specs.Starts.{StartsAre, TakesLeast, Fills, EndsGroup}

pub fate-push : (n : ℕ) (es : List CrewEvent) (e : CrewEvent) → fate_of n (es ++ e ∷ []) ≡ fate_after n (fate_of n es) e
fate-push n es e = fold-append (fate_after n) Unstarted es (e ∷ [])

pub busy-push : (s : ℕ) (es : List CrewEvent) (e : CrewEvent) → busy s (es ++ e ∷ []) ≡ busy_after s (busy s es) e
busy-push s es e = fold-append (busy_after s) false es (e ∷ [])

pub if_same : {A : Type 0} (a b : ℕ) (x y : A) → a ≡ b → cond (eqb a b) x y ≡ x
if_same a b x y h = grind (arith, nat_tests)

pub if_other : {A : Type 0} (a b : ℕ) (x y : A) → (a ≡ b → ⊥) → cond (eqb a b) x y ≡ y
if_other a b x y h = grind (arith, nat_tests)

-- The start of this number.
pub fate-started : (n slot : ℕ) (job : Job) (number : ℕ) (es : List CrewEvent) → number ≡ n → fate_of n (es ++ Started slot job number ∷ []) ≡ Running slot
fate-started n slot job number es e = fate-push n es (Started slot job number) ∙ if_same number n (Running slot) (fate_of n es) e

-- The start of another number.
pub fate-other : (n slot : ℕ) (job : Job) (number : ℕ) (es : List CrewEvent) → (number ≡ n → ⊥) → fate_of n (es ++ Started slot job number ∷ []) ≡ fate_of n es
fate-other n slot job number es ne = fate-push n es (Started slot job number) ∙ if_other number n (Running slot) (fate_of n es) ne

-- The end in this slot.
pub fate-ended : (n slot number : ℕ) (reply : Reply) (es : List CrewEvent) → fate_of n es ≡ Running slot → fate_of n (es ++ Ended slot reply number ∷ []) ≡ Replied reply
fate-ended n slot number reply es e =
    fate-push n es (Ended slot reply number) ∙ ap (ended_by slot reply) e ∙ if_same slot slot (Replied reply) (Running slot) refl

-- An end changes no fate but that of its slot.
pub ended-other : (slot : ℕ) (reply : Reply) (f : Fate) → ((s : ℕ) → f ≡ Running s → (s ≡ slot → ⊥)) → ended_by slot reply f ≡ f
ended-other slot reply Unstarted ne = refl
ended-other slot reply (Running s) ne = if_other s slot (Replied reply) (Running s) (ne s refl)
ended-other slot reply (Replied r) ne = refl

pub busy-started : (s slot : ℕ) (job : Job) (number : ℕ) (es : List CrewEvent) → slot ≡ s → busy s (es ++ Started slot job number ∷ []) ≡ true
busy-started s slot job number es e = busy-push s es (Started slot job number) ∙ if_same slot s true (busy s es) e

pub busy-started_other : (s slot : ℕ) (job : Job) (number : ℕ) (es : List CrewEvent) → (slot ≡ s → ⊥) → busy s (es ++ Started slot job number ∷ []) ≡ busy s es
busy-started_other s slot job number es e = busy-push s es (Started slot job number) ∙ if_other slot s true (busy s es) e

pub busy-ended : (s slot number : ℕ) (reply : Reply) (es : List CrewEvent) → slot ≡ s → busy s (es ++ Ended slot reply number ∷ []) ≡ false
busy-ended s slot number reply es e = busy-push s es (Ended slot reply number) ∙ if_same slot s false (busy s es) e

pub busy-ended_other : (s slot number : ℕ) (reply : Reply) (es : List CrewEvent) → (slot ≡ s → ⊥) → busy s (es ++ Ended slot reply number ∷ []) ≡ busy s es
busy-ended_other s slot number reply es e = busy-push s es (Ended slot reply number) ∙ if_other slot s false (busy s es) e

-- One more start.
pub starts-push : (jobs : List Job) (base slot : ℕ) (job : Job) (number : ℕ) (es : List CrewEvent) → StartsAre jobs base es → base < number → slice_get jobs (number - (base + 1)) ≡ Some job → StartsAre jobs base (es ++ Started slot job number ∷ [])
starts-push jobs base slot job number [] h lt at = (lt, at, tt)
starts-push jobs base slot job number (Started s j n ∷ es) h lt at = (h.0, h.1, starts-push jobs base slot job number es h.2 lt at)
starts-push jobs base slot job number (Ended s r n ∷ es) h lt at = starts-push jobs base slot job number es h lt at

pub starts-end : (jobs : List Job) (base slot number : ℕ) (reply : Reply) (es : List CrewEvent) → StartsAre jobs base es → StartsAre jobs base (es ++ Ended slot reply number ∷ [])
starts-end jobs base slot number reply [] h = tt
starts-end jobs base slot number reply (Started s j n ∷ es) h = (h.0, h.1, starts-end jobs base slot number reply es h.2)
starts-end jobs base slot number reply (Ended s r n ∷ es) h = starts-end jobs base slot number reply es h

pub flying-push : (n : ℕ) (es : List CrewEvent) (e : CrewEvent) → fold flying_after n (es ++ e ∷ []) ≡ flying_after (fold flying_after n es) e
flying-push n es e = fold-append flying_after n es (e ∷ [])

-- One more start in the least free slot.
pub least-push : (before es : List CrewEvent) (slot : ℕ) (job : Job) (number : ℕ) → TakesLeast before es → ((s : ℕ) → s < slot → busy s (before ++ es) ≡ true) → TakesLeast before (es ++ Started slot job number ∷ [])
least-push before [] slot job number h full = (λ s lt. ap (busy s) (sym (append-nil before)) ∙ full s lt, tt)
least-push before (Started x j n ∷ es) slot job number h full =
    (h.0, least-push (before ++ Started x j n ∷ []) es slot job number h.1 (λ s lt. ap (busy s) (append_assoc before (Started x j n ∷ []) es) ∙ full s lt))
least-push before (Ended x r n ∷ es) slot job number h full =
    least-push (before ++ Ended x r n ∷ []) es slot job number h (λ s lt. ap (busy s) (append_assoc before (Ended x r n ∷ []) es) ∙ full s lt)

pub least-end : (before es : List CrewEvent) (slot number : ℕ) (reply : Reply) → TakesLeast before es → TakesLeast before (es ++ Ended slot reply number ∷ [])
least-end before [] slot number reply h = tt
least-end before (Started x j n ∷ es) slot number reply h = (h.0, least-end (before ++ Started x j n ∷ []) es slot number reply h.1)
least-end before (Ended x r n ∷ es) slot number reply h = least-end (before ++ Ended x r n ∷ []) es slot number reply h

pub least-both : (before es more : List CrewEvent) → TakesLeast before es → TakesLeast (before ++ es) more → TakesLeast before (es ++ more)
least-both before [] more h k = subst (λ l. TakesLeast l more) (append-nil before) k
least-both before (Started x j n ∷ es) more h k =
    (h.0, least-both (before ++ Started x j n ∷ []) es more h.1 (subst (λ l. TakesLeast l more) (sym (append_assoc before (Started x j n ∷ []) es)) k))
least-both before (Ended x r n ∷ es) more h k =
    least-both (before ++ Ended x r n ∷ []) es more h (subst (λ l. TakesLeast l more) (sym (append_assoc before (Ended x r n ∷ []) es)) k)

pub fills-start : (w : ℕ) (last : ℕ → Type 0) (n slot : ℕ) (job : Job) (number : ℕ) (es : List CrewEvent) → Fills w last n es → fold flying_after n es < w → Fills w last n (es ++ Started slot job number ∷ [])
fills-start w last n slot job number [] h lt = (lt, tt)
fills-start w last n slot job number (Started s j m ∷ es) h lt = (h.0, fills-start w last (n + 1) slot job number es h.1 lt)
fills-start w last n slot job number (Ended s r m ∷ es) h lt = (h.0, h.1, fills-start w last (n - 1) slot job number es h.2 lt)

pub fills-end : (w : ℕ) (last : ℕ → Type 0) (n slot number : ℕ) (reply : Reply) (es : List CrewEvent) → Fills w last n es → fold flying_after n es ≤ w → last number ⊎ (fold flying_after n es ≡ w) → Fills w last n (es ++ Ended slot reply number ∷ [])
fills-end w last n slot number reply [] h le full = (le, full, tt)
fills-end w last n slot number reply (Started s j m ∷ es) h le full = (h.0, fills-end w last (n + 1) slot number reply es h.1 le full)
fills-end w last n slot number reply (Ended s r m ∷ es) h le full = (h.0, h.1, fills-end w last (n - 1) slot number reply es h.2 le full)

pub fills-both : (w : ℕ) (last : ℕ → Type 0) (n : ℕ) (es more : List CrewEvent) → Fills w last n es → Fills w last (fold flying_after n es) more → Fills w last n (es ++ more)
fills-both w last n [] more h k = k
fills-both w last n (Started s j m ∷ es) more h k = (h.0, fills-both w last (n + 1) es more h.1 k)
fills-both w last n (Ended s r m ∷ es) more h k = (h.0, h.1, fills-both w last (n - 1) es more h.2 k)

pub fills-weaken : (w : ℕ) (last last' : ℕ → Type 0) (n : ℕ) (es : List CrewEvent) → ((m : ℕ) → last m → last' m) → Fills w last n es → Fills w last' n es
fills-weaken w last last' n [] f h = tt
fills-weaken w last last' n (Started s j m ∷ es) f h = (h.0, fills-weaken w last last' (n + 1) es f h.1)
fills-weaken w last last' n (Ended s r m ∷ es) f h = (h.0, ⊎_elim (λ l. inl (f m l)) inr h.1, fills-weaken w last last' (n - 1) es f h.2)

pub ends_left : (base : ℕ) (groups : List (List Job)) (jobs : List Job) (number : ℕ) → EndsGroup base groups number → EndsGroup base (groups ++ jobs ∷ []) number
ends_left base [] jobs number h = absurd h
ends_left base (g ∷ groups) jobs number h = ⊎_elim inl (λ k. inr (ends_left (base + length g) groups jobs number k)) h

pub ends_last : (base : ℕ) (groups : List (List Job)) (jobs : List Job) (number : ℕ) → number ≡ base + length (all_jobs groups) + length jobs → EndsGroup base (groups ++ jobs ∷ []) number
ends_last base [] jobs number e = inl (omega arith)
ends_last base (g ∷ groups) jobs number e = inr (ends_last (base + length g) groups jobs number (omega (arith, length-append g (all_jobs groups))))
