-- The account of a crew around a crew, of which one call is refused, after each call.
use Rattle.std.proofs.Common.{◌≡◌, ℕ, ◌+◌, ◌-◌, ◌^◌, ◌<◌, ◌≤◌, Bool, true, false, cond, eqb, List, [], ◌∷◌, ◌++◌, length, map, take, drop, refl, sym, ap, ◌∙◌, arith, length-append}
use Rattle.std.specs.Prelude.{Option, None, Some, fold}
use Rattle.std.proofs.lemmas.Bool.Decides.{nat_tests}
use Rattle.std.proofs.lemmas.List.{take-append-drop, append-nil, take_all, drop_all}
use Rattle.std.proofs.lemmas.List.Sums.{fold-append}
use Rattle.crew_jobs.specs.declared.job.Job.{Job}
use Rattle.crew_trait.specs.declared.reply.Reply.{Reply}
use Rattle.crew_trait.specs.declared.reply.Reply.TheVariants.{Answer, StartRefused, EndRefused}
use Rattle.crew_trait.specs.declared.event.CrewEvent.{CrewEvent}
use Rattle.crew_trait.specs.declared.event.CrewEvent.TheVariants.{Started, Ended}
use Rattle.crew.specs.declared.fused.FuseKind.{FuseKind}
use Rattle.crew.specs.declared.fused.FuseKind.TheVariants.{Start, End}
use Rattle.crew_trait.specs.Events.{Account, IsSomeBusy, busy, busy_after, failure_of}
use Rattle.crew.specs.Fused.{fused, added_failure, before, counted, IsCounted, is_due, IsSpent, last_added, last_refused, later_of, left_after, one_higher, refused_end, since}
use Rattle.crew.proofs.SlotLemmas.{lists_start, lists_left}

-- busy slots don't depend on numbers
busy_higher : (s : ℕ) (b : Bool) (es : List CrewEvent) → fold (busy_after s) b (map one_higher es) ≡ fold (busy_after s) b es
busy_higher s b [] = refl
busy_higher s b (Started slot job number ∷ es) = busy_higher s (busy_after s b (Started slot job number)) es
busy_higher s b (Ended slot reply number ∷ es) = busy_higher s (busy_after s b (Ended slot reply number)) es

-- nor on replies
busy_refused : (s : ℕ) (b : Bool) (es : List CrewEvent) → fold (busy_after s) b (last_refused es) ≡ fold (busy_after s) b es
busy_refused s b [] = refl
busy_refused s b (Started slot job number ∷ []) = refl
busy_refused s b (Ended slot reply number ∷ []) = refl
busy_refused s b (x ∷ y ∷ es) = busy_refused s (busy_after s b x) (y ∷ es)

busy_parts : (s n : ℕ) (es front back : List CrewEvent) → ((b : Bool) → fold (busy_after s) b front ≡ fold (busy_after s) b (take n es)) → ((b : Bool) → fold (busy_after s) b back ≡ fold (busy_after s) b (drop n es)) → busy s (front ++ back) ≡ busy s es
busy_parts s n es front back f g =
    fold-append (busy_after s) false front back
    ∙ ap (λ b. fold (busy_after s) b back) (f false)
    ∙ g (fold (busy_after s) false (take n es))
    ∙ sym (fold-append (busy_after s) false (take n es) (drop n es))
    ∙ ap (busy s) (take-append-drop n es)

-- the same slots are busy in both accounts
pub busy_over : (kind : FuseKind) (later : Option ℕ) (a : Account) (s : ℕ) → busy s (fused kind later a).events ≡ busy s a.events
busy_over kind None a s = refl
busy_over Start (Some later) a s = busy_parts s (length a.events - later) a.events (before later a.events) (map one_higher (since later a.events)) (λ b. refl) (λ b. busy_higher s b (since later a.events))
busy_over End (Some later) a s = busy_parts s (length a.events - later) a.events (last_refused (before later a.events)) (since later a.events) (λ b. busy_refused s b (before later a.events)) (λ b. refl)

pub some_over : (kind : FuseKind) (later : Option ℕ) (a : Account) → IsSomeBusy (fused kind later a).events → IsSomeBusy a.events
some_over kind later a h = record { slot = h.slot; is_busy = sym (busy_over kind later a h.slot) ∙ h.is_busy }

-- the counts of the crew inside are no higher
pub attempts_over : (kind : FuseKind) (later : Option ℕ) (a : Account) → a.attempts ≤ (fused kind later a).attempts
attempts_over kind None a = omega arith
attempts_over Start (Some later) a = omega arith
attempts_over End (Some later) a = omega arith

before_none : (es : List CrewEvent) → before 0 es ≡ es
before_none es = take_all (length es - 0) es (omega arith)

since_none : (es : List CrewEvent) → since 0 es ≡ []
since_none es = drop_all (length es - 0) es (omega arith)

last_push : (es : List CrewEvent) (x : CrewEvent) → last_refused (es ++ x ∷ []) ≡ es ++ refused_end x ∷ []
last_push [] x = refl
last_push (y ∷ []) x = refl
last_push (y ∷ z ∷ es) x = ap (λ v. y ∷ v) (last_push (z ∷ es) x)

added_push : (es : List CrewEvent) (x : CrewEvent) → last_added (es ++ x ∷ []) ≡ added_failure x
added_push [] x = refl
added_push (y ∷ []) x = refl
added_push (y ∷ z ∷ es) x = added_push (z ∷ es) x

-- a call that is to be refused is the first one
one_tells : (n : ℕ) → eqb n 1 ≡ true → n ≡ 1
one_tells n e = grind (arith, nat_tests)

left_due : (call kind : FuseKind) (left : ℕ) → is_due call kind left ≡ true → left ≡ 1
left_due Start Start left d = one_tells left d
left_due Start End left d = let clash : false ≡ true = d in cc
left_due End Start left d = let clash : false ≡ true = d in cc
left_due End End left d = one_tells left d

pub end_events : (kind : FuseKind) (left : ℕ) (later : Option ℕ) (a a' : Account) (slot : ℕ) (reply : Reply) → is_due End kind left ≡ true → IsSpent later left → a'.events ≡ a.events ++ Ended slot reply a.attempts ∷ [] → (fused kind (Some 0) a').events ≡ (fused kind later a).events ++ Ended slot EndRefused (fused kind later a).attempts ∷ []
end_events End left None a a' slot reply d spent is =
    ap (λ es. last_refused (before 0 es) ++ since 0 es) is
    ∙ ap (λ f. last_refused f ++ since 0 (a.events ++ Ended slot reply a.attempts ∷ [])) (before_none (a.events ++ Ended slot reply a.attempts ∷ []))
    ∙ ap (λ b. last_refused (a.events ++ Ended slot reply a.attempts ∷ []) ++ b) (since_none (a.events ++ Ended slot reply a.attempts ∷ []))
    ∙ append-nil (last_refused (a.events ++ Ended slot reply a.attempts ∷ []))
    ∙ last_push a.events (Ended slot reply a.attempts)
end_events End left (Some later) a a' slot reply d spent is = let one = left_due End End left d in absurd (omega (arith, one, spent))
end_events Start left later a a' slot reply d spent is = let clash : false ≡ true = d in cc

one_failure : (reply : Reply) (m n : ℕ) → m ≡ n + failure_of reply → m + (1 - failure_of reply) ≡ n + 1
one_failure (Answer status text) m n is = omega (arith, is)
one_failure StartRefused m n is = omega (arith, is)
one_failure EndRefused m n is = omega (arith, is)

pub end_failures : (kind : FuseKind) (left : ℕ) (later : Option ℕ) (a a' : Account) (slot : ℕ) (reply : Reply) → is_due End kind left ≡ true → IsSpent later left → a'.events ≡ a.events ++ Ended slot reply a.attempts ∷ [] → a'.failures ≡ a.failures + failure_of reply → (fused kind (Some 0) a').failures ≡ (fused kind later a).failures + 1
end_failures End left None a a' slot reply d spent is failed =
    let added : last_added (before 0 a'.events) ≡ 1 - failure_of reply = ap (λ es. last_added (before 0 es)) is ∙ ap last_added (before_none (a.events ++ Ended slot reply a.attempts ∷ [])) ∙ added_push a.events (Ended slot reply a.attempts) in
    ap (λ n. a'.failures + n) added ∙ one_failure reply a'.failures a.failures failed
end_failures End left (Some later) a a' slot reply d spent is failed = let one = left_due End End left d in absurd (omega (arith, one, spent))
end_failures Start left later a a' slot reply d spent is failed = let clash : false ≡ true = d in cc

-- at most one call is refused
pub spent_due : (call kind : FuseKind) (left : ℕ) → is_due call kind left ≡ true → IsSpent (Some 0) (left_after call kind left)
spent_due Start Start left d = let one = one_tells left d in omega (arith, one)
spent_due Start End left d = let clash : false ≡ true = d in cc
spent_due End Start left d = let clash : false ≡ true = d in cc
spent_due End End left d = let one = one_tells left d in omega (arith, one)

none_left : (b : Bool) (left : ℕ) → left ≡ 0 → cond b (left - 1) left ≡ 0
none_left true left is = omega (arith, is)
none_left false left is = is

pub spent_counted : (call kind : FuseKind) (left : ℕ) (later : Option ℕ) → IsSpent later left → IsSpent (counted later) (left_after call kind left)
spent_counted call kind left None spent = tt
spent_counted call kind left (Some later) spent = none_left _ left spent

pub counted_more : (later : Option ℕ) → later_of (counted later) ≤ later_of later + 1
counted_more None = omega arith
counted_more (Some later) = omega arith

pub counted_started : (left left' : ℕ) (later : Option ℕ) (a a' : Account) (slot : ℕ) (job : Job) (number : ℕ) → IsCounted left later a → IsSpent (counted later) left' → a.attempts < 2 ^ 62 → busy slot a.events ≡ false → a'.events ≡ a.events ++ Started slot job number ∷ [] → a'.attempts ≡ a.attempts + 1 → IsCounted left' (counted later) a'
counted_started left left' later a a' slot job number h spent few free es is =
    record {
      slots = h.slots ++ slot ∷ [];
      lists = lists_start h.slots (h.slots ++ slot ∷ []) a.events a'.events slot job number h.lists free refl es;
      fit = let f = h.fit in let n = length-append h.slots (slot ∷ []) in let m = counted_more later in omega (arith, f, is, n, m);
      few = omega (arith, few, is);
      spent = spent;
    }

pub counted_ended : (left left' : ℕ) (later later' : Option ℕ) (a a' : Account) (slot : ℕ) (reply : Reply) (number : ℕ) → IsCounted left later a → IsSpent later' left' → later_of later' ≤ later_of later + 1 → busy slot a.events ≡ true → a'.events ≡ a.events ++ Ended slot reply number ∷ [] → a'.attempts ≡ a.attempts → IsCounted left' later' a'
counted_ended left left' later later' a a' slot reply number h spent more on es is =
    let kept = lists_left h.slots a.events a'.events slot reply number h.lists on es in
    record {
      slots = kept.rest;
      lists = kept.lists;
      fit = let f = h.fit in let n = kept.shorter in omega (arith, f, is, n, more);
      few = let f = h.few in omega (arith, f, is);
      spent = spent;
    }
