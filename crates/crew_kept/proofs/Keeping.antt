-- What is kept of a run, call by call.
use Rattle.std.proofs.Common.{◌≡◌, ◌≢◌, ℕ, ◌+◌, ◌^◌, ◌<◌, ◌≤◌, ◌==◌, ◌&&◌, Bool, true, false, cond, List, [], ◌∷◌, ◌++◌, length, fold, refl, sym, ap, ◌∙◌, subst, arith, append-nil, length-append, eq-eqb, eqb-true, ◌⊎◌, inl, inr}
use Rattle.crew_jobs.specs.declared.job.Job.{Job}
use Rattle.crew_trait.specs.Events.{Account, IsSomeBusy, busy, busy_after, failure_of, without_slot}
use Rattle.crew_trait.specs.declared.reply.Reply.{Reply}
use Rattle.crew_trait.specs.declared.reply.Reply.TheVariants.{Answer, StartRefused, EndRefused}
use Rattle.std.specs.Prelude.{Option, Some, None, bytes_eq, unwrap_or}
use Rattle.std.proofs.lemmas.Bool.{true≢false}
use Rattle.answers_text.specs.Texts.{job_text}
use Rattle.crew_trait.specs.declared.event.CrewEvent.{CrewEvent}
use Rattle.crew_trait.specs.declared.event.CrewEvent.TheVariants.{Started, Ended}
use Rattle.answers_text.specs.declared.record.Record.{Record}
use Rattle.crew_kept.specs.Links.{after_asked, after_taken, is_link, is_refused, may_run}
use Rattle.crew_kept.specs.Records.{MayPass, answer_in, answer_of, first_of, is_followed, lacks, passes}
use Rattle.crew_kept.specs.declared.state.State.{State}
use Rattle.crew_kept.specs.declared.state.State.TheVariants.{Open, Differed, Lacked}
use Rattle.crew_kept.specs.declared.placed.Step.{Step}
use Rattle.crew_kept.specs.declared.placed.Step.TheVariants.{Happened, Refusal}
use Rattle.crew_kept.specs.declared.placed.Placed.{Placed}
use Rattle.crew_kept.specs.declared.placed.Waiting.{Waiting}
use Rattle.crew_kept.specs.Taking.{AreTaken, ArePlaced, EndsOnce, IsKeeping, SharesSlots, account_with, asked, asked_in, asked_with, ended, events_in, how_often, joined, lacked, not_started, nothing_yet, own_refusals, own_starts, raised, refusals_in, refused, returned, starts_in, taken, times}
use Rattle.crew_kept.proofs.Joining.{joined_inner, joined_own, joined_nothing, placed_more, placed_push, refusals_push, starts_push}

fold_push : (f : Bool → CrewEvent → Bool) (b : Bool) (es : List CrewEvent) (x : CrewEvent) → fold f b (es ++ x ∷ []) ≡ f (fold f b es) x
fold_push f b [] x = refl
fold_push f b (e ∷ es) x = fold_push f (f b e) es x

-- Whether a slot is busy after one more event.
busy_push : (slot : ℕ) (es : List CrewEvent) (x : CrewEvent) → busy slot (es ++ x ∷ []) ≡ busy_after slot (busy slot es) x
busy_push slot es x = fold_push (busy_after slot) false es x

times_push : (slot : ℕ) (ws : List Waiting) (w : Waiting) → times slot (ws ++ w ∷ []) ≡ times slot ws + cond (w.slot == slot) 1 0
times_push slot [] w = omega arith
times_push slot (v ∷ ws) w = let rest = times_push slot ws w in omega (arith, rest)

-- One of a child inside and of a reply that waits, in a slot in use.
abbrev count : Bool → ℕ
count b = cond b 1 0

at_most_one : (b : Bool) → count b ≤ 1
at_most_one true = omega arith
at_most_one false = omega arith

is_one : (b : Bool) → 1 ≤ count b → b ≡ true
is_one true h = refl
is_one false h = absurd (omega (arith, h))

is_none : (b : Bool) → count b ≡ 0 → b ≡ false
is_none true h = absurd (omega (arith, h))
is_none false h = refl

asked_at : (b i o : Bool) (t : ℕ) → (b ≡ true → o ≡ false) → count i + t ≡ count o → count (cond b true i) + t ≡ count (cond b true o)
asked_at true i o t free h = let none : count o ≡ 0 = ap count (free refl) in omega (arith, h, none)
asked_at false i o t free h = h

taken_at : (b i o : Bool) (t : ℕ) → (b ≡ true → o ≡ false) → count i + t ≡ count o → count i + (t + count b) ≡ count (cond b true o)
taken_at true i o t free h = let none : count o ≡ 0 = ap count (free refl) in omega (arith, h, none)
taken_at false i o t free h = omega (arith, h)

returned_at : (b i o : Bool) (t : ℕ) → count i + (t + count b) ≡ count o → count i + t ≡ count (cond b false o)
returned_at true i o t h = omega (arith, h, at_most_one o)
returned_at false i o t h = omega (arith, h)

ended_at : (b i o : Bool) (t : ℕ) → t ≡ 0 → count i + t ≡ count o → count (cond b false i) + t ≡ count (cond b false o)
ended_at true i o t none h = omega (arith, none)
ended_at false i o t none h = h

-- The slots, after each event.
in_slot : (slot s : ℕ) (events : List CrewEvent) → busy slot events ≡ false → (slot == s) ≡ true → busy s events ≡ false
in_slot slot s events free same = ap (λ n. busy n events) (sym (eqb-true slot s same)) ∙ free

pub shares_asked : (outer inner : List CrewEvent) (waiting : List Waiting) (slot : ℕ) (job : Job) (m n : ℕ) → SharesSlots outer inner waiting → busy slot outer ≡ false
    → SharesSlots (outer ++ Started slot job m ∷ []) (inner ++ Started slot job n ∷ []) waiting
shares_asked outer inner waiting slot job m n h free = record {
  each = λ s.
      ap (λ b. count b + times s waiting) (busy_push s inner (Started slot job n))
      ∙ asked_at (slot == s) (busy s inner) (busy s outer) (times s waiting) (in_slot slot s outer free) (h.each s)
      ∙ ap count (sym (busy_push s outer (Started slot job m)));
}

pub shares_taken : (outer inner : List CrewEvent) (waiting : List Waiting) (slot : ℕ) (job : Job) (reply : Reply) (m : ℕ) → SharesSlots outer inner waiting → busy slot outer ≡ false
    → SharesSlots (outer ++ Started slot job m ∷ []) inner (waiting ++ record { slot = slot; taken = reply } ∷ [])
shares_taken outer inner waiting slot job reply m h free = record {
  each = λ s.
      ap (λ t. count (busy s inner) + t) (times_push s waiting (record { slot = slot; taken = reply }))
      ∙ taken_at (slot == s) (busy s inner) (busy s outer) (times s waiting) (in_slot slot s outer free) (h.each s)
      ∙ ap count (sym (busy_push s outer (Started slot job m)));
}

pub shares_returned : (outer inner : List CrewEvent) (waiting : List Waiting) (slot : ℕ) (reply : Reply) (m : ℕ) → SharesSlots outer inner (waiting ++ record { slot = slot; taken = reply } ∷ [])
    → SharesSlots (outer ++ Ended slot reply m ∷ []) inner waiting
shares_returned outer inner waiting slot reply m h = record {
  each = λ s.
      returned_at (slot == s) (busy s inner) (busy s outer) (times s waiting)
      (ap (λ t. count (busy s inner) + t) (sym (times_push s waiting (record { slot = slot; taken = reply }))) ∙ h.each s)
      ∙ ap count (sym (busy_push s outer (Ended slot reply m)));
}

none_wait : (s : ℕ) (waiting : List Waiting) → waiting ≡ [] → times s waiting ≡ 0
none_wait s waiting none = ap (times s) none

pub shares_ended : (outer inner : List CrewEvent) (waiting : List Waiting) (slot : ℕ) (reply : Reply) (m n : ℕ) → SharesSlots outer inner waiting → waiting ≡ []
    → SharesSlots (outer ++ Ended slot reply m ∷ []) (inner ++ Ended slot reply n ∷ []) waiting
shares_ended outer inner waiting slot reply m n h none = record {
  each = λ s.
      ap (λ b. count b + times s waiting) (busy_push s inner (Ended slot reply n))
      ∙ ended_at (slot == s) (busy s inner) (busy s outer) (times s waiting) (none_wait s waiting none) (h.each s)
      ∙ ap count (sym (busy_push s outer (Ended slot reply m)));
}

pub inner_free : (outer inner : List CrewEvent) (waiting : List Waiting) (slot : ℕ) → SharesSlots outer inner waiting → busy slot outer ≡ false → busy slot inner ≡ false
inner_free outer inner waiting slot h free =
    let none : count (busy slot outer) ≡ 0 = ap count free in
    is_none (busy slot inner) (omega (arith, h.each slot, none))

pub inner_busy : (outer inner : List CrewEvent) (waiting : List Waiting) → SharesSlots outer inner waiting → waiting ≡ [] → IsSomeBusy outer → IsSomeBusy inner
inner_busy outer inner waiting h none some =
    let one : count (busy some.slot outer) ≡ 1 = ap count some.is_busy in
    record { slot = some.slot; is_busy = is_one (busy some.slot inner) (omega (arith, h.each some.slot, none_wait some.slot waiting none, one)) }

pub outer_busy : (outer inner : List CrewEvent) (waiting : List Waiting) (slot : ℕ) → SharesSlots outer inner waiting → busy slot inner ≡ true → busy slot outer ≡ true
outer_busy outer inner waiting slot h is =
    let one : count (busy slot inner) ≡ 1 = ap count is in
    is_one (busy slot outer) (omega (arith, h.each slot, one))

pub waiting_busy : (outer inner : List CrewEvent) (waiting : List Waiting) (slot : ℕ) (reply : Reply) → SharesSlots outer inner (waiting ++ record { slot = slot; taken = reply } ∷ []) → busy slot outer ≡ true
waiting_busy outer inner waiting slot reply h =
    let same : count (slot == slot) ≡ 1 = ap count (eq-eqb slot slot refl) in
    let long = times_push slot waiting (record { slot = slot; taken = reply }) in
    is_one (busy slot outer) (omega (arith, h.each slot, long, same))

-- Each child ends once.
other_in : (slot s x : ℕ) (xs : List ℕ) (b : Bool) → (x == slot) ≡ b → (slot == s) ≡ false → how_often s (without_slot slot xs) ≡ how_often s xs
    → how_often s (cond b xs (x ∷ without_slot slot xs)) ≡ count (x == s) + how_often s xs
other_in slot s x xs true is other rest = let none : count (x == s) ≡ 0 = ap count (ap (λ n. n == s) (eqb-true x slot is) ∙ other) in omega (arith, none)
other_in slot s x xs false is other rest = ap (λ n. count (x == s) + n) rest

other : (slot s : ℕ) (xs : List ℕ) → (slot == s) ≡ false → how_often s (without_slot slot xs) ≡ how_often s xs
other slot s [] is = refl
other slot s (x ∷ xs) is = other_in slot s x xs (x == slot) refl is (other slot s xs is)

shorter_in : (slot x : ℕ) (xs : List ℕ) (b : Bool) → 1 ≤ count b + how_often slot xs → (1 ≤ how_often slot xs → length (without_slot slot xs) + 1 ≡ length xs)
    → length (cond b xs (x ∷ without_slot slot xs)) + 1 ≡ length (x ∷ xs)
shorter_in slot x xs true h rest = omega arith
shorter_in slot x xs false h rest = let short = rest (omega (arith, h)) in omega (arith, short)

shorter : (slot : ℕ) (xs : List ℕ) → 1 ≤ how_often slot xs → length (without_slot slot xs) + 1 ≡ length xs
shorter slot [] h = absurd (omega (arith, h))
shorter slot (x ∷ xs) h = shorter_in slot x xs (x == slot) h (shorter slot xs)

used_started : (b u : Bool) (n : ℕ) → (u ≡ true → 1 ≤ n) → cond b true u ≡ true → 1 ≤ count b + n
used_started true u n used is = omega arith
used_started false u n used is = let low = used is in omega (arith, low)

used_ended : (b u : Bool) (n m : ℕ) → (b ≡ false → m ≡ n) → (u ≡ true → 1 ≤ n) → cond b false u ≡ true → 1 ≤ m
used_ended true u n m same used is = absurd (true≢false (sym is))
used_ended false u n m same used is = let low = used is in let equal = same refl in omega (arith, low, equal)

ends_refused : (a b : Account) → EndsOnce a → b.events ≡ a.events → b.attempts ≡ a.attempts + 1 → EndsOnce b
ends_refused a b h same tried = let long : length b.events ≡ length a.events = ap length same in record {
  slots = h.slots;
  in_use = λ s is. h.in_use s (sym (ap (busy s) same) ∙ is);
  few = omega (arith, h.few, long, tried);
}

ends_started : (a b : Account) (slot number : ℕ) (job : Job) → EndsOnce a → b.events ≡ a.events ++ Started slot job number ∷ [] → b.attempts ≡ a.attempts + 1 → EndsOnce b
ends_started a b slot number job h is tried =
    let long : length b.events ≡ length a.events + 1 = ap length is ∙ length-append a.events (Started slot job number ∷ []) in
    record {
      slots = slot ∷ h.slots;
      in_use = λ s busy_is. used_started (slot == s) (busy s a.events) (how_often s h.slots) (h.in_use s) (sym (ap (busy s) is ∙ busy_push s a.events (Started slot job number)) ∙ busy_is);
      few = omega (arith, h.few, long, tried);
    }

ends_ended : (a b : Account) (slot number : ℕ) (reply : Reply) → EndsOnce a → busy slot a.events ≡ true → b.events ≡ a.events ++ Ended slot reply number ∷ [] → b.attempts ≡ a.attempts → EndsOnce b
ends_ended a b slot number reply h was is tried =
    let long : length b.events ≡ length a.events + 1 = ap length is ∙ length-append a.events (Ended slot reply number ∷ []) in
    let short : length (without_slot slot h.slots) + 1 ≡ length h.slots = shorter slot h.slots (h.in_use slot was) in
    record {
      slots = without_slot slot h.slots;
      in_use =
          λ s busy_is. used_ended (slot == s) (busy s a.events) (how_often s h.slots) (how_often s (without_slot slot h.slots)) (other slot s h.slots) (h.in_use s)
          (sym (ap (busy s) is ∙ busy_push s a.events (Ended slot reply number)) ∙ busy_is);
      few = omega (arith, h.few, long, short, tried);
    }

ends_new : (a : Account) → a.events ≡ [] → EndsOnce a
ends_new a none = let long : length a.events ≡ 0 = ap length none in record {
  slots = [];
  in_use = λ s is. absurd (true≢false (sym is ∙ ap (busy s) none));
  few = omega (arith, long);
}

-- What is known of each start, after one that wasn't taken.
asked_so : (records : List Record) (placed : List Placed) (waiting : List Waiting) (events : List CrewEvent) (linked : Bool) (slot number attempts : ℕ) (job : Job) (old new : State)
    → MayPass records (attempts + 1) job old new → is_refused linked job ≡ false → AreTaken records placed waiting events attempts linked old
    → AreTaken records placed waiting (events ++ Started slot job number ∷ []) (attempts + 1) (after_asked linked job) new
asked_so records placed waiting events linked slot number attempts job old _ (passes none) let_through before = asked events linked old slot number attempts job none let_through before
asked_so records placed waiting events linked slot number attempts job old _ lacks let_through before = asked events linked Lacked slot number attempts job refl let_through (lacked attempts old before)

not_started_so : (records : List Record) (placed : List Placed) (waiting : List Waiting) (events : List CrewEvent) (linked : Bool) (attempts : ℕ) (job : Job) (old new : State)
    → MayPass records (attempts + 1) job old new → is_refused linked job ≡ false → AreTaken records placed waiting events attempts linked old
    → AreTaken records placed waiting events (attempts + 1) linked new
not_started_so records placed waiting events linked attempts job old _ (passes none) let_through before = not_started old attempts job none let_through before
not_started_so records placed waiting events linked attempts job old _ lacks let_through before = not_started Lacked attempts job refl let_through (lacked attempts old before)

refused_so : (records : List Record) (placed : List Placed) (waiting : List Waiting) (events : List CrewEvent) (linked : Bool) (place attempts : ℕ) (job : Job) (old new : State)
    → MayPass records (attempts + 1) job old new → is_refused linked job ≡ true → AreTaken records placed waiting events attempts linked old
    → AreTaken records (placed ++ record { place = place; step = Refusal (attempts + 1) } ∷ []) waiting events (attempts + 1) false new
refused_so records placed waiting events linked place attempts job old _ (passes none) stopped before = refused linked old place attempts job none stopped before
refused_so records placed waiting events linked place attempts job old _ lacks stopped before = refused linked Lacked place attempts job refl stopped (lacked attempts old before)

-- What the crew keeps, after each kind of call. `joined 0 0 placed a.events` are the events of the run.
pub kept_refused : (a b : Account) (records : List Record) (placed : List Placed) (waiting : List Waiting) (linked : Bool) (state : State) (events attempts : ℕ) (later : State) (job : Job)
    → IsKeeping a records placed waiting linked state events attempts → MayPass records (attempts + 1) job state later → is_refused linked job ≡ false → attempts < 2 ^ 62
    → b.events ≡ a.events → b.attempts ≡ a.attempts + 1
    → IsKeeping b records placed waiting linked later events (attempts + 1)
kept_refused a b records placed waiting linked state events attempts later job h may let_through few same tried = record {
  counted = h.counted ∙ ap length (sym same);
  tried = omega (arith, h.tried, tried);
  few = omega (arith, few);
  ends_once = ends_refused a b h.ends_once same tried;
  in_place = subst (λ es. ArePlaced 0 (length es) placed) (sym same) h.in_place;
  shares = subst (λ es. SharesSlots (joined 0 0 placed es) es waiting) (sym same) h.shares;
  are_taken = subst (λ es. AreTaken records placed waiting es (attempts + 1) linked later) (sym same)
      (not_started_so records placed waiting a.events linked attempts job state later may let_through h.are_taken);
}

zero_add : (n : ℕ) → 0 + n ≡ n
zero_add n = omega arith

start_number : (slot : ℕ) (job : Job) (n t : ℕ) → raised (0 + t) (Started slot job n) ≡ Started slot job (n + t)
start_number slot job n t = ap (λ k. Started slot job (n + k)) (zero_add t)

end_number : (slot : ℕ) (reply : Reply) (n t : ℕ) → raised (0 + t) (Ended slot reply n) ≡ Ended slot reply (n + t)
end_number slot reply n t = ap (λ k. Ended slot reply (n + k)) (zero_add t)

whole_place : (n : ℕ) (ps : List Placed) → ArePlaced 0 n ps → ArePlaced 0 (0 + n) ps
whole_place n ps h = subst (λ k. ArePlaced 0 k ps) (sym (zero_add n)) h

-- The events of the run after a start that the crew inside took, and after an end of it.
pub events_asked : (a b : Account) (placed : List Placed) (slot : ℕ) (job : Job) → ArePlaced 0 (length a.events) placed → b.events ≡ a.events ++ Started slot job (a.attempts + 1) ∷ []
    → joined 0 0 placed b.events ≡ joined 0 0 placed a.events ++ Started slot job ((a.attempts + own_starts placed) + 1) ∷ []
events_asked a b placed slot job within is =
    let number : (a.attempts + 1) + own_starts placed ≡ (a.attempts + own_starts placed) + 1 = omega arith in
    ap (joined 0 0 placed) is ∙ joined_inner 0 0 placed a.events (Started slot job (a.attempts + 1)) (whole_place (length a.events) placed within)
    ∙ ap (λ e. joined 0 0 placed a.events ++ e ∷ []) (start_number slot job (a.attempts + 1) (own_starts placed) ∙ ap (Started slot job) number)

pub events_ended : (a b : Account) (placed : List Placed) (slot : ℕ) (reply : Reply) → ArePlaced 0 (length a.events) placed → b.events ≡ a.events ++ Ended slot reply a.attempts ∷ []
    → joined 0 0 placed b.events ≡ joined 0 0 placed a.events ++ Ended slot reply (a.attempts + own_starts placed) ∷ []
events_ended a b placed slot reply within is =
    ap (joined 0 0 placed) is ∙ joined_inner 0 0 placed a.events (Ended slot reply a.attempts) (whole_place (length a.events) placed within)
    ∙ ap (λ e. joined 0 0 placed a.events ++ e ∷ []) (end_number slot reply a.attempts (own_starts placed))

-- The events of the run after a step of one's own.
pub events_placed : (a : Account) (placed : List Placed) (place : ℕ) (step : Step) → ArePlaced 0 (length a.events) placed → place ≡ length a.events
    → joined 0 0 (placed ++ record { place = place; step = step } ∷ []) a.events ≡ joined 0 0 placed a.events ++ events_in step
events_placed a placed place step within is =
    joined_own 0 0 placed a.events (record { place = place; step = step }) (whole_place (length a.events) placed within) (is ∙ sym (zero_add (length a.events)))

pub kept_asked : (a b : Account) (records : List Record) (placed : List Placed) (waiting : List Waiting) (linked : Bool) (state : State) (events attempts slot : ℕ) (later : State) (job : Job)
    → IsKeeping a records placed waiting linked state events attempts → MayPass records (attempts + 1) job state later → is_refused linked job ≡ false
    → attempts < 2 ^ 62 → busy slot (joined 0 0 placed a.events) ≡ false → b.events ≡ a.events ++ Started slot job (a.attempts + 1) ∷ [] → b.attempts ≡ a.attempts + 1
    → IsKeeping b records placed waiting (after_asked linked job) later (events + 1) (attempts + 1)
kept_asked a b records placed waiting linked state events attempts slot later job h may let_through few free is tried =
    let long : length b.events ≡ length a.events + 1 = ap length is ∙ length-append a.events (Started slot job (a.attempts + 1) ∷ []) in
    let shares = shares_asked (joined 0 0 placed a.events) a.events waiting slot job ((a.attempts + own_starts placed) + 1) (a.attempts + 1) h.shares free in
    record {
      counted = omega (arith, h.counted, long);
      tried = omega (arith, h.tried, tried);
      few = omega (arith, few);
      ends_once = ends_started a b slot (a.attempts + 1) job h.ends_once is tried;
      in_place = placed_more 0 (length a.events) (length b.events) placed h.in_place (omega (arith, long));
      shares =
          let moved : SharesSlots (joined 0 0 placed a.events ++ Started slot job ((a.attempts + own_starts placed) + 1) ∷ []) b.events waiting =
          subst (λ es. SharesSlots (joined 0 0 placed a.events ++ Started slot job ((a.attempts + own_starts placed) + 1) ∷ []) es waiting) (sym is) shares in
          subst (λ es. SharesSlots es b.events waiting) (sym (events_asked a b placed slot job h.in_place is)) moved;
      are_taken = subst (λ es. AreTaken records placed waiting es (attempts + 1) (after_asked linked job) later) (sym is)
          (asked_so records placed waiting a.events linked slot (a.attempts + 1) attempts job state later may let_through h.are_taken);
    }

pub kept_taken : (a : Account) (records : List Record) (placed later : List Placed) (waiting more : List Waiting) (linked link : Bool) (state : State) (events attempts slot : ℕ) (job : Job) (reply : Reply)
    → IsKeeping a records placed waiting linked state events attempts → attempts < 2 ^ 62 → busy slot (joined 0 0 placed a.events) ≡ false → answer_of state records (attempts + 1) job ≡ Some reply → link ≡ after_taken linked job
    → later ≡ placed ++ record { place = events; step = Happened (Started slot job (attempts + 1)) } ∷ [] → more ≡ waiting ++ record { slot = slot; taken = reply } ∷ []
    → IsKeeping a records later more link state events (attempts + 1)
kept_taken a records placed later waiting more linked link state events attempts slot job reply h few free has link_is later_is more_is =
    let step : Step = Happened (Started slot job (attempts + 1)) in
    let joined_is = events_placed a placed events step h.in_place h.counted in
    let shares = shares_taken (joined 0 0 placed a.events) a.events waiting slot job reply (attempts + 1) h.shares free in
    let done : IsKeeping a records (placed ++ record { place = events; step = step } ∷ []) (waiting ++ record { slot = slot; taken = reply } ∷ []) (after_taken linked job) state events (attempts + 1) = record {
      counted = h.counted;
      tried = omega (arith, h.tried, starts_push placed (record { place = events; step = step }));
      few = omega (arith, few);
      ends_once = h.ends_once;
      in_place = placed_push 0 (length a.events) placed (record { place = events; step = step }) h.in_place h.counted;
      shares = subst (λ es. SharesSlots es a.events (waiting ++ record { slot = slot; taken = reply } ∷ [])) (sym joined_is) shares;
      are_taken = taken linked state events slot attempts job reply has h.are_taken;
    } in
    subst (λ l. IsKeeping a records later more l state events (attempts + 1)) (sym link_is)
    (subst (λ w. IsKeeping a records later w (after_taken linked job) state events (attempts + 1)) (sym more_is)
    (subst (λ p. IsKeeping a records p (waiting ++ record { slot = slot; taken = reply } ∷ []) (after_taken linked job) state events (attempts + 1)) (sym later_is) done))

-- After a start that was refused here.
pub kept_turned : (a : Account) (records : List Record) (placed later : List Placed) (waiting : List Waiting) (linked : Bool) (state : State) (events attempts : ℕ) (next : State) (job : Job)
    → IsKeeping a records placed waiting linked state events attempts → MayPass records (attempts + 1) job state next → is_refused linked job ≡ true → attempts < 2 ^ 62
    → later ≡ placed ++ record { place = events; step = Refusal (attempts + 1) } ∷ []
    → IsKeeping a records later waiting false next events (attempts + 1)
kept_turned a records placed later waiting linked state events attempts next job h may stopped few later_is =
    let joined_is = events_placed a placed events (Refusal (attempts + 1)) h.in_place h.counted ∙ append-nil (joined 0 0 placed a.events) in
    let done : IsKeeping a records (placed ++ record { place = events; step = Refusal (attempts + 1) } ∷ []) waiting false next events (attempts + 1) = record {
      counted = h.counted;
      tried = omega (arith, h.tried, starts_push placed (record { place = events; step = Refusal (attempts + 1) }));
      few = omega (arith, few);
      ends_once = h.ends_once;
      in_place = placed_push 0 (length a.events) placed (record { place = events; step = Refusal (attempts + 1) }) h.in_place h.counted;
      shares = subst (λ es. SharesSlots es a.events waiting) (sym joined_is) h.shares;
      are_taken = refused_so records placed waiting a.events linked events attempts job state next may stopped h.are_taken;
    } in
    subst (λ p. IsKeeping a records p waiting false next events (attempts + 1)) (sym later_is) done

pub kept_returned : (a : Account) (records : List Record) (placed later : List Placed) (waiting fewer : List Waiting) (linked : Bool) (state : State) (events attempts slot : ℕ) (reply : Reply)
    → IsKeeping a records placed waiting linked state events attempts → waiting ≡ fewer ++ record { slot = slot; taken = reply } ∷ []
    → later ≡ placed ++ record { place = events; step = Happened (Ended slot reply attempts) } ∷ [] → IsKeeping a records later fewer linked state events attempts
kept_returned a records placed later waiting fewer linked state events attempts slot reply before waiting_is later_is =
    let w : Waiting = record { slot = slot; taken = reply } in
    let step : Step = Happened (Ended slot reply attempts) in
    let h : IsKeeping a records placed (fewer ++ w ∷ []) linked state events attempts = subst (λ ws. IsKeeping a records placed ws linked state events attempts) waiting_is before in
    let joined_is = events_placed a placed events step h.in_place h.counted in
    let shares = shares_returned (joined 0 0 placed a.events) a.events fewer slot reply attempts h.shares in
    let done : IsKeeping a records (placed ++ record { place = events; step = step } ∷ []) fewer linked state events attempts = record {
      counted = h.counted;
      tried = omega (arith, h.tried, starts_push placed (record { place = events; step = step }));
      few = h.few;
      ends_once = h.ends_once;
      in_place = placed_push 0 (length a.events) placed (record { place = events; step = step }) h.in_place h.counted;
      shares = subst (λ es. SharesSlots es a.events fewer) (sym joined_is) shares;
      are_taken = returned fewer events slot attempts reply h.are_taken;
    } in
    subst (λ p. IsKeeping a records p fewer linked state events attempts) (sym later_is) done

pub kept_ended : (a b : Account) (records : List Record) (placed : List Placed) (waiting : List Waiting) (linked : Bool) (state : State) (events attempts slot : ℕ) (reply : Reply)
    → IsKeeping a records placed waiting linked state events attempts → waiting ≡ [] → busy slot a.events ≡ true → b.events ≡ a.events ++ Ended slot reply a.attempts ∷ [] → b.attempts ≡ a.attempts
    → IsKeeping b records placed waiting linked state (events + 1) attempts
kept_ended a b records placed waiting linked state events attempts slot reply h none was is tried =
    let long : length b.events ≡ length a.events + 1 = ap length is ∙ length-append a.events (Ended slot reply a.attempts ∷ []) in
    let shares = shares_ended (joined 0 0 placed a.events) a.events waiting slot reply (a.attempts + own_starts placed) a.attempts h.shares none in
    record {
      counted = omega (arith, h.counted, long);
      tried = omega (arith, h.tried, tried);
      few = h.few;
      ends_once = ends_ended a b slot a.attempts reply h.ends_once was is tried;
      in_place = placed_more 0 (length a.events) (length b.events) placed h.in_place (omega (arith, long));
      shares =
          let moved : SharesSlots (joined 0 0 placed a.events ++ Ended slot reply (a.attempts + own_starts placed) ∷ []) b.events waiting =
          subst (λ es. SharesSlots (joined 0 0 placed a.events ++ Ended slot reply (a.attempts + own_starts placed) ∷ []) es waiting) (sym is) shares in
          subst (λ es. SharesSlots es b.events waiting) (sym (events_ended a b placed slot reply h.in_place is)) moved;
      are_taken = subst (λ es. AreTaken records placed waiting es attempts linked state) (sym is) (ended a.events slot a.attempts attempts reply h.are_taken);
    }

pub kept_new : (a : Account) (records : List Record) → a.events ≡ [] → a.attempts ≡ 0 → IsKeeping a records [] [] false Open 0 0
kept_new a records none tried = record {
  counted = ap length (sym none);
  tried = omega (arith, tried);
  few = omega arith;
  ends_once = ends_new a none;
  in_place = omega arith;
  shares = subst (λ es. SharesSlots (joined 0 0 [] es) es []) (sym none) (record { each = λ s. refl });
  are_taken = subst (λ es. AreTaken records [] [] es 0 false Open) (sym none) nothing_yet;
}

-- Without records nothing is taken.
no_answer : (state : State) (records : List Record) (number : ℕ) (job : Job) → records ≡ [] → answer_of state records number job ≡ None
no_answer Open records number job none = ap (λ rs. answer_in records number job (first_of number rs)) none
no_answer Differed records number job none = refl
no_answer Lacked records number job none = refl

record IsAlone (placed : List Placed) (waiting : List Waiting) (linked : Bool) : Type 0 where
  nothing_placed : placed ≡ []
  nothing_waits : waiting ≡ []
  not_linked : linked ≡ false

some_none : (state : State) (records : List Record) (number : ℕ) (job : Job) (reply : Reply) → answer_of state records number job ≡ Some reply → records ≡ [] → ⊥
some_none state records number job reply is none = let both : Some reply ≡ None = sym is ∙ no_answer state records number job none in absurd (cc)

either_false : (t : Bool) → cond t false false ≡ false
either_false true = refl
either_false false = refl

nothing_taken : {records : List Record} {placed : List Placed} {waiting : List Waiting} {events : List CrewEvent} {attempts : ℕ} {linked : Bool} {state : State}
    → records ≡ [] → AreTaken records placed waiting events attempts linked state → IsAlone placed waiting linked
nothing_taken none nothing_yet = record { nothing_placed = refl; nothing_waits = refl; not_linked = refl }
nothing_taken none (lacked attempts state before) = nothing_taken none before
nothing_taken none (asked events linked state slot number attempts job is let_through before) =
    let alone = nothing_taken none before in
    record {
      nothing_placed = alone.nothing_placed;
      nothing_waits = alone.nothing_waits;
      not_linked = ap (λ l. after_asked l job) alone.not_linked ∙ either_false (is_link job);
    }
nothing_taken none (not_started state attempts job is let_through before) = nothing_taken none before
nothing_taken {records = records} none (taken linked state place slot attempts job reply is before) = absurd (some_none state records (attempts + 1) job reply is none)
nothing_taken none (refused linked state place attempts job is stopped before) =
    let not_linked : is_refused linked job ≡ false = ap (λ l. is_refused l job) (nothing_taken none before).not_linked in
    absurd (true≢false (sym stopped ∙ not_linked))
nothing_taken none (returned waiting place slot attempts reply before) =
    let alone = nothing_taken none before in
    let long : length (waiting ++ record { slot = slot; taken = reply } ∷ []) ≡ length waiting + 1 = length-append waiting (record { slot = slot; taken = reply } ∷ []) in
    absurd (omega (arith, long, ap length alone.nothing_waits))
nothing_taken none (ended events slot number attempts reply before) = nothing_taken none before

pub account_alone : (a : Account) (records : List Record) (placed : List Placed) (waiting : List Waiting) (linked : Bool) (state : State) (attempts : ℕ) → records ≡ []
    → AreTaken records placed waiting a.events attempts linked state → account_with placed a ≡ a
account_alone a records placed waiting linked state attempts none are =
    ap (λ p. account_with p a) (nothing_taken none are).nothing_placed
    ∙ ap (λ es. record a { events = es; attempts = a.attempts + 0; failures = a.failures + 0 }) (joined_nothing a.events) ∙ ap (λ n. record a { attempts = n; failures = a.failures + 0 }) (add_zero a.attempts)
    ∙ ap (λ n. record a { failures = n }) (add_zero a.failures)
  where
    add_zero : (n : ℕ) → n + 0 ≡ n
    add_zero n = omega arith

kept_so : (a : Account) (records : List Record) (state : State) → (state ≡ Open) ⊎ (state ≡ Lacked) → a.events ≡ [] → a.attempts ≡ 0 → IsKeeping a records [] [] false state 0 0
kept_so a records state (inl is) none tried = subst (λ s. IsKeeping a records [] [] false s 0 0) (sym is) (kept_new a records none tried)
kept_so a records state (inr is) none tried =
    let h : IsKeeping a records [] [] false Open 0 0 = kept_new a records none tried in
    let lacking : IsKeeping a records [] [] false Lacked 0 0 = record {
      counted = h.counted;
      tried = h.tried;
      few = h.few;
      ends_once = h.ends_once;
      in_place = h.in_place;
      shares = h.shares;
      are_taken = lacked 0 Open h.are_taken;
    } in
    subst (λ s. IsKeeping a records [] [] false s 0 0) (sym is) lacking

pub kept_begun : (a : Account) (records : List Record) (placed : List Placed) (waiting : List Waiting) (state : State) → (state ≡ Open) ⊎ (state ≡ Lacked) → placed ≡ [] → waiting ≡ [] → a.events ≡ [] → a.attempts ≡ 0
    → IsKeeping a records placed waiting false state 0 0
kept_begun a records placed waiting state state_is placed_none waiting_none none tried =
    subst (λ p. IsKeeping a records p waiting false state 0 0) (sym placed_none)
    (subst (λ w. IsKeeping a records [] w false state 0 0) (sym waiting_none) (kept_so a records state state_is none tried))

pub fits_begun : (placed : List Placed) (waiting : List Waiting) (room : ℕ) → placed ≡ [] → waiting ≡ [] → length placed + length waiting + 0 ≤ room
fits_begun placed waiting room placed_none waiting_none = let p : length placed ≡ 0 = ap length placed_none in let w : length waiting ≡ 0 = ap length waiting_none in omega (arith, p, w)

-- Each reply that waits is an answer.
record IsAnswer (reply : Reply) : Type 0 where
  no_failure : failure_of reply ≡ 0
  no_refusal : reply ≢ StartRefused

is_answer : Reply → Bool
is_answer (Answer status text) = true
is_answer StartRefused = false
is_answer EndRefused = false

answer : (status : ℕ) (text : List ℕ) → IsAnswer (Answer status text)
unfolding is_answer
answer status text = record { no_failure = refl; no_refusal = λ e. true≢false (ap is_answer e) }

abbrev AreAnswers : List Waiting → Type 0
AreAnswers [] = Unit {0}
AreAnswers (w ∷ ws) = IsAnswer w.taken × AreAnswers ws

answers_push : (ws : List Waiting) (w : Waiting) → AreAnswers ws → IsAnswer w.taken → AreAnswers (ws ++ w ∷ [])
answers_push [] w all one = (one, tt)
answers_push (v ∷ ws) w all one = (all.0, answers_push ws w all.1 one)

answers_front : (ws : List Waiting) (w : Waiting) → AreAnswers (ws ++ w ∷ []) → AreAnswers ws
answers_front [] w all = tt
answers_front (v ∷ ws) w all = (all.0, answers_front ws w all.1)

answers_last : (ws : List Waiting) (w : Waiting) → AreAnswers (ws ++ w ∷ []) → IsAnswer w.taken
answers_last [] w all = all.0
answers_last (v ∷ ws) w all = answers_last ws w all.1

answer_if : (same followed : Bool) (status : ℕ) (text : List ℕ) (reply : Reply) → cond same (cond followed (Some (Answer status text)) None) None ≡ Some reply → IsAnswer reply
answer_if true true status text reply is = subst (λ o. IsAnswer (unwrap_or o reply)) is (answer status text)
answer_if true false status text reply is = absurd (cc)
answer_if false followed status text reply is = absurd (cc)

answer_found : (records : List Record) (number : ℕ) (job : Job) (found : Option Record) (reply : Reply) → answer_in records number job found ≡ Some reply → IsAnswer reply
answer_found records number job None reply is = absurd (cc)
answer_found records number job (Some it) reply is = answer_if (bytes_eq (job_text job) it.job) (is_followed records number job) it.status it.text reply is

answered : (state : State) (records : List Record) (number : ℕ) (job : Job) (reply : Reply) → answer_of state records number job ≡ Some reply → IsAnswer reply
answered Open records number job reply is = answer_found records number job (first_of number records) reply is
answered Differed records number job reply is = absurd (cc)
answered Lacked records number job reply is = absurd (cc)

are_answers : {records : List Record} {placed : List Placed} {waiting : List Waiting} {events : List CrewEvent} {attempts : ℕ} {linked : Bool} {state : State}
    → AreTaken records placed waiting events attempts linked state → AreAnswers waiting
are_answers nothing_yet = tt
are_answers (lacked attempts state before) = are_answers before
are_answers (asked events linked state slot number attempts job is let_through before) = are_answers before
are_answers (not_started state attempts job is let_through before) = are_answers before
are_answers {records = records} (taken {waiting = waiting} linked state place slot attempts job reply is before) =
    answers_push waiting (record { slot = slot; taken = reply }) (are_answers before) (answered state records (attempts + 1) job reply is)
are_answers (refused linked state place attempts job is stopped before) = are_answers before
are_answers (returned waiting place slot attempts reply before) = answers_front waiting (record { slot = slot; taken = reply }) (are_answers before)
are_answers (ended events slot number attempts reply before) = are_answers before

last_answer : (a : Account) (records : List Record) (placed : List Placed) (waiting fewer : List Waiting) (linked : Bool) (state : State) (events attempts slot : ℕ) (reply : Reply)
    → IsKeeping a records placed waiting linked state events attempts → waiting ≡ fewer ++ record { slot = slot; taken = reply } ∷ [] → IsAnswer reply
last_answer a records placed waiting fewer linked state events attempts slot reply h is =
    answers_last fewer (record { slot = slot; taken = reply }) (subst AreAnswers is (are_answers h.are_taken))

pub returned_reply : (a : Account) (records : List Record) (placed : List Placed) (waiting fewer : List Waiting) (linked : Bool) (state : State) (events attempts slot : ℕ) (reply : Reply)
    → IsKeeping a records placed waiting linked state events attempts → waiting ≡ fewer ++ record { slot = slot; taken = reply } ∷ [] → reply ≢ StartRefused
returned_reply a records placed waiting fewer linked state events attempts slot reply h is = (last_answer a records placed waiting fewer linked state events attempts slot reply h is).no_refusal

pub returned_count : (a : Account) (records : List Record) (placed later : List Placed) (waiting fewer : List Waiting) (linked : Bool) (state : State) (events attempts slot : ℕ) (reply : Reply)
    → IsKeeping a records placed waiting linked state events attempts → waiting ≡ fewer ++ record { slot = slot; taken = reply } ∷ []
    → later ≡ placed ++ record { place = events; step = Happened (Ended slot reply attempts) } ∷ []
    → a.failures + own_refusals later ≡ (a.failures + own_refusals placed) + failure_of reply
returned_count a records placed later waiting fewer linked state events attempts slot reply h is later_is =
    let none = (last_answer a records placed waiting fewer linked state events attempts slot reply h is).no_failure in
    let more = refusals_push placed (record { place = events; step = Happened (Ended slot reply attempts) }) in
    let same : own_refusals later ≡ own_refusals placed = ap own_refusals later_is ∙ more ∙ omega arith in
    omega (arith, none, same)

pub returned_busy : (a : Account) (records : List Record) (placed : List Placed) (waiting fewer : List Waiting) (linked : Bool) (state : State) (events attempts slot : ℕ) (reply : Reply)
    → IsKeeping a records placed waiting linked state events attempts → waiting ≡ fewer ++ record { slot = slot; taken = reply } ∷ [] → busy slot (joined 0 0 placed a.events) ≡ true
returned_busy a records placed waiting fewer linked state events attempts slot reply h is =
    waiting_busy (joined 0 0 placed a.events) a.events fewer slot reply (subst (λ ws. SharesSlots (joined 0 0 placed a.events) a.events ws) is h.shares)

pub returned_events : (a : Account) (records : List Record) (placed later : List Placed) (waiting fewer : List Waiting) (linked : Bool) (state : State) (events attempts slot : ℕ) (reply : Reply)
    → IsKeeping a records placed waiting linked state events attempts → later ≡ placed ++ record { place = events; step = Happened (Ended slot reply attempts) } ∷ []
    → joined 0 0 later a.events ≡ joined 0 0 placed a.events ++ Ended slot reply (a.attempts + own_starts placed) ∷ []
returned_events a records placed later waiting fewer linked state events attempts slot reply h later_is =
    ap (λ p. joined 0 0 p a.events) later_is ∙ events_placed a placed events (Happened (Ended slot reply attempts)) h.in_place h.counted
    ∙ ap (λ n. joined 0 0 placed a.events ++ Ended slot reply n ∷ []) h.tried

pub returned_number : (n place slot number : ℕ) (placed later : List Placed) (reply : Reply) → later ≡ placed ++ record { place = place; step = Happened (Ended slot reply number) } ∷ []
    → n + own_starts later ≡ n + own_starts placed
returned_number n place slot number placed later reply is =
    let more = starts_push placed (record { place = place; step = Happened (Ended slot reply number) }) in
    let same : own_starts later ≡ own_starts placed = ap own_starts is ∙ more ∙ omega arith in
    ap (λ k. n + k) same

-- The same, if what is kept was handed on.
pub kept_ended_on : (a b : Account) (records : List Record) (placed later : List Placed) (waiting more : List Waiting) (linked : Bool) (state : State) (events attempts slot : ℕ) (reply : Reply)
    → IsKeeping a records placed waiting linked state events attempts → waiting ≡ [] → more ≡ [] → later ≡ placed → busy slot a.events ≡ true
    → b.events ≡ a.events ++ Ended slot reply a.attempts ∷ [] → b.attempts ≡ a.attempts → IsKeeping b records later more linked state (events + 1) attempts
kept_ended_on a b records placed later waiting more linked state events attempts slot reply h none more_none later_is was is tried =
    subst (λ p. IsKeeping b records p more linked state (events + 1) attempts) (sym later_is)
    (subst (λ w. IsKeeping b records placed w linked state (events + 1) attempts) (none ∙ sym more_none) (kept_ended a b records placed waiting linked state events attempts slot reply h none was is tried))

pub ended_events_on : (a b : Account) (placed later : List Placed) (slot : ℕ) (reply : Reply) → ArePlaced 0 (length a.events) placed → later ≡ placed → b.events ≡ a.events ++ Ended slot reply a.attempts ∷ []
    → joined 0 0 later b.events ≡ joined 0 0 placed a.events ++ Ended slot reply (a.attempts + own_starts placed) ∷ []
ended_events_on a b placed later slot reply within later_is is = ap (λ p. joined 0 0 p b.events) later_is ∙ events_ended a b placed slot reply within is

pub kept_taken_on : (a : Account) (records same : List Record) (placed mid later : List Placed) (waiting middle more : List Waiting) (linked link : Bool) (state after : State) (events attempts slot : ℕ) (job : Job) (reply : Reply)
    → IsKeeping a records placed waiting linked state events attempts → a.attempts + own_starts placed < 2 ^ 62 → busy slot (joined 0 0 placed a.events) ≡ false
    → answer_of state records (attempts + 1) job ≡ Some reply
    → link ≡ after_taken linked job → same ≡ records → after ≡ state → mid ≡ placed → middle ≡ waiting
    → later ≡ mid ++ record { place = events; step = Happened (Started slot job (attempts + 1)) } ∷ [] → more ≡ middle ++ record { slot = slot; taken = reply } ∷ []
    → IsKeeping a same later more link after events (attempts + 1)
kept_taken_on a records same placed mid later waiting middle more linked link state after events attempts slot job reply h small free has link_is same_is after_is mid_is middle_is later_is more_is =
    let few : attempts < 2 ^ 62 = omega (arith, h.tried, small) in
    subst (λ r. IsKeeping a r later more link after events (attempts + 1)) (sym same_is)
    (subst (λ s. IsKeeping a records later more link s events (attempts + 1)) (sym after_is)
    (kept_taken a records placed later waiting more linked link state events attempts slot job reply h few free has link_is
    (later_is ∙ ap (λ p. p ++ record { place = events; step = Happened (Started slot job (attempts + 1)) } ∷ []) mid_is)
    (more_is ∙ ap (λ w. w ++ record { slot = slot; taken = reply } ∷ []) middle_is)))

pub kept_turned_on : (a : Account) (records same : List Record) (placed mid later : List Placed) (waiting middle : List Waiting) (linked test : Bool) (state next : State) (events attempts : ℕ) (job : Job)
    → IsKeeping a records placed waiting linked state events attempts → MayPass records (attempts + 1) job state next → test ≡ is_refused linked job → test ≡ true
    → a.attempts + own_starts placed < 2 ^ 62 → same ≡ records → mid ≡ placed → middle ≡ waiting
    → later ≡ mid ++ record { place = events; step = Refusal (attempts + 1) } ∷ [] → IsKeeping a same later middle false next events (attempts + 1)
kept_turned_on a records same placed mid later waiting middle linked test state next events attempts job h may test_is is small same_is mid_is middle_is later_is =
    let few : attempts < 2 ^ 62 = omega (arith, h.tried, small) in
    subst (λ r. IsKeeping a r later middle false next events (attempts + 1)) (sym same_is)
    (subst (λ w. IsKeeping a records later w false next events (attempts + 1)) (sym middle_is)
    (kept_turned a records placed later waiting linked state events attempts next job h may (sym test_is ∙ is) few (later_is ∙ ap (λ p. p ++ record { place = events; step = Refusal (attempts + 1) } ∷ []) mid_is)))

pub taken_events_on : (a : Account) (records : List Record) (placed mid later : List Placed) (waiting : List Waiting) (linked : Bool) (state : State) (events attempts slot : ℕ) (job : Job)
    → IsKeeping a records placed waiting linked state events attempts → mid ≡ placed → later ≡ mid ++ record { place = events; step = Happened (Started slot job (attempts + 1)) } ∷ []
    → joined 0 0 later a.events ≡ joined 0 0 placed a.events ++ Started slot job ((a.attempts + own_starts placed) + 1) ∷ []
taken_events_on a records placed mid later waiting linked state events attempts slot job h mid_is later_is =
    ap (λ p. joined 0 0 p a.events) (later_is ∙ ap (λ p. p ++ record { place = events; step = Happened (Started slot job (attempts + 1)) } ∷ []) mid_is)
    ∙ events_placed a placed events (Happened (Started slot job (attempts + 1))) h.in_place h.counted
    ∙ ap (λ n. joined 0 0 placed a.events ++ Started slot job (n + 1) ∷ []) h.tried

pub turned_events_on : (a : Account) (records : List Record) (placed mid later : List Placed) (waiting : List Waiting) (linked : Bool) (state : State) (events attempts : ℕ)
    → IsKeeping a records placed waiting linked state events attempts → mid ≡ placed → later ≡ mid ++ record { place = events; step = Refusal (attempts + 1) } ∷ []
    → joined 0 0 later a.events ≡ joined 0 0 placed a.events
turned_events_on a records placed mid later waiting linked state events attempts h mid_is later_is =
    ap (λ p. joined 0 0 p a.events) (later_is ∙ ap (λ p. p ++ record { place = events; step = Refusal (attempts + 1) } ∷ []) mid_is)
    ∙ events_placed a placed events (Refusal (attempts + 1)) h.in_place h.counted ∙ append-nil (joined 0 0 placed a.events)

-- One more start here, and perhaps one more refusal.
pub own_number_on : (n place : ℕ) (step : Step) (placed mid later : List Placed) → mid ≡ placed → later ≡ mid ++ record { place = place; step = step } ∷ []
    → n + own_starts later ≡ (n + own_starts placed) + starts_in step
own_number_on n place step placed mid later mid_is is =
    let more = starts_push mid (record { place = place; step = step }) in
    let same : own_starts mid ≡ own_starts placed = ap own_starts mid_is in
    let all : own_starts later ≡ own_starts mid + starts_in step = ap own_starts is ∙ more in
    omega (arith, same, all)

pub own_refusals_on : (n place : ℕ) (step : Step) (placed mid later : List Placed) → mid ≡ placed → later ≡ mid ++ record { place = place; step = step } ∷ []
    → n + own_refusals later ≡ (n + own_refusals placed) + refusals_in step
own_refusals_on n place step placed mid later mid_is is =
    let more = refusals_push mid (record { place = place; step = step }) in
    let same : own_refusals mid ≡ own_refusals placed = ap own_refusals mid_is in
    let all : own_refusals later ≡ own_refusals mid + refusals_in step = ap own_refusals is ∙ more in
    omega (arith, same, all)

pub no_refusal_on : (n place slot number : ℕ) (job : Job) (placed mid later : List Placed) → mid ≡ placed → later ≡ mid ++ record { place = place; step = Happened (Started slot job number) } ∷ []
    → n + own_refusals later ≡ n + own_refusals placed
no_refusal_on n place slot number job placed mid later mid_is is =
    let all = own_refusals_on n place (Happened (Started slot job number)) placed mid later mid_is is in
    omega (arith, all)

pub kept_asked_on : (a b : Account) (records same : List Record) (placed later : List Placed) (waiting more : List Waiting) (linked link test : Bool) (state next : State) (events attempts slot : ℕ) (job : Job)
    → IsKeeping a records placed waiting linked state events attempts → MayPass records (attempts + 1) job state next → test ≡ is_refused linked job → test ≡ false → link ≡ after_asked linked job
    → a.attempts + own_starts placed < 2 ^ 62 → busy slot (joined 0 0 placed a.events) ≡ false → same ≡ records → later ≡ placed → more ≡ waiting
    → b.events ≡ a.events ++ Started slot job (a.attempts + 1) ∷ [] → b.attempts ≡ a.attempts + 1 → IsKeeping b same later more link next (events + 1) (attempts + 1)
kept_asked_on a b records same placed later waiting more linked link test state next events attempts slot job h may test_is is_not link_is small free same_is later_is more_is is tried =
    let few : attempts < 2 ^ 62 = omega (arith, h.tried, small) in
    subst (λ r. IsKeeping b r later more link next (events + 1) (attempts + 1)) (sym same_is)
    (subst (λ p. IsKeeping b records p more link next (events + 1) (attempts + 1)) (sym later_is)
    (subst (λ w. IsKeeping b records placed w link next (events + 1) (attempts + 1)) (sym more_is)
    (subst (λ l. IsKeeping b records placed waiting l next (events + 1) (attempts + 1)) (sym link_is)
    (kept_asked a b records placed waiting linked state events attempts slot next job h may (sym test_is ∙ is_not) few free is tried))))

pub asked_events_on : (a b : Account) (placed later : List Placed) (slot : ℕ) (job : Job) → ArePlaced 0 (length a.events) placed → later ≡ placed → b.events ≡ a.events ++ Started slot job (a.attempts + 1) ∷ []
    → joined 0 0 later b.events ≡ joined 0 0 placed a.events ++ Started slot job ((a.attempts + own_starts placed) + 1) ∷ []
asked_events_on a b placed later slot job within later_is is = ap (λ p. joined 0 0 p b.events) later_is ∙ events_asked a b placed slot job within is

pub kept_refused_on : (a b : Account) (records same : List Record) (placed later : List Placed) (waiting more : List Waiting) (linked test : Bool) (state next : State) (events attempts : ℕ) (job : Job)
    → IsKeeping a records placed waiting linked state events attempts → MayPass records (attempts + 1) job state next → test ≡ is_refused linked job → test ≡ false
    → a.attempts + own_starts placed < 2 ^ 62 → same ≡ records → later ≡ placed → more ≡ waiting
    → b.events ≡ a.events → b.attempts ≡ a.attempts + 1 → IsKeeping b same later more linked next events (attempts + 1)
kept_refused_on a b records same placed later waiting more linked test state next events attempts job h may test_is is_not small same_is later_is more_is is tried =
    let few : attempts < 2 ^ 62 = omega (arith, h.tried, small) in
    subst (λ r. IsKeeping b r later more linked next events (attempts + 1)) (sym same_is)
    (subst (λ p. IsKeeping b records p more linked next events (attempts + 1)) (sym later_is)
    (subst (λ w. IsKeeping b records placed w linked next events (attempts + 1)) (sym more_is)
    (kept_refused a b records placed waiting linked state events attempts next job h may (sym test_is ∙ is_not) few is tried)))

-- There is room for the refusal of a start after a link.
pub fits_linked : (linked : Bool) (count room : ℕ) → count + 1 ≤ room → count + cond linked 1 0 ≤ room
fits_linked linked count_now room h = omega (arith, h, at_most_one linked)

refused_linked : (linked runs : Bool) → linked && runs ≡ true → linked ≡ true
refused_linked true runs is = refl
refused_linked false runs is = absurd (cc)

pub fits_turned : (linked test : Bool) (job : Job) (placed mid later waiting middle room grown last : ℕ) → test ≡ is_refused linked job → test ≡ true → placed + waiting + cond linked 1 0 ≤ room
    → mid ≡ placed → middle ≡ waiting → room ≤ grown → later ≡ mid + 1 → grown ≤ last → later + middle + 0 ≤ last
fits_turned linked test job placed mid later waiting middle room grown last test_is is h mid_is middle_is grows later_is lasts =
    let one : cond linked 1 0 ≡ 1 = ap count (refused_linked linked (may_run job) (sym test_is ∙ is)) in
    omega (arith, one, h, mid_is, middle_is, grows, later_is, lasts)

fewer_after : (link linked : Bool) → cond (cond link false linked) 1 0 ≤ cond linked 1 0
fewer_after true linked = omega arith
fewer_after false linked = omega arith

pub fits_asked : (linked link : Bool) (job : Job) (placed mid waiting middle room grown : ℕ) → link ≡ after_asked linked job → placed + waiting + cond linked 1 0 ≤ room
    → mid ≡ placed → middle ≡ waiting → room ≤ grown → mid + middle + cond link 1 0 ≤ grown
fits_asked linked link job placed mid waiting middle room grown link_is h mid_is middle_is grows =
    let fewer = fewer_after (is_link job) linked in
    let same : cond link 1 0 ≡ cond (after_asked linked job) 1 0 = ap count link_is in
    omega (arith, fewer, same, h, mid_is, middle_is, grows)

add_none : (n : ℕ) → n + 0 ≡ n
add_none n = omega arith

-- The account of a crew that has done nothing.
pub account_begun : (a : Account) (placed : List Placed) → placed ≡ [] → account_with placed a ≡ a
account_begun a placed none =
    ap (λ p. account_with p a) none
    ∙ ap (λ es. record a { events = es; attempts = a.attempts + 0; failures = a.failures + 0 }) (joined_nothing a.events) ∙ ap (λ n. record a { attempts = n; failures = a.failures + 0 }) (add_none a.attempts)
    ∙ ap (λ n. record a { failures = n }) (add_none a.failures)

pub asked_begun : (a : Account) (placed : List Placed) → placed ≡ [] → a.events ≡ [] → asked_with placed a ≡ []
asked_begun a placed none events_none = ap (λ p. asked_with p a) none ∙ ap (asked_in 0 0 []) events_none
