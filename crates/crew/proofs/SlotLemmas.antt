-- The slots in flight after one more event.
use Rattle.std.proofs.Common.{◌≡◌, ℕ, zero, suc, ◌+◌, ◌<◌, ◌≤◌, Bool, true, false, cond, eqb, List, [], ◌∷◌, ◌++◌, length, get_or, refl, sym, ap, ◌∙◌, subst, ⊎_elim, arith}
use Rattle.std.specs.Prelude.{remove, All}
use Rattle.std.proofs.lemmas.Bool.{cases_eq}
use Rattle.std.proofs.lemmas.Bool.Decides.{nat_tests}
use Rattle.std.proofs.lemmas.List.Sums.{fold-append}
use Rattle.std.proofs.lemmas.List.Elements.{All-push, All-cons}
use Rattle.crew_jobs.specs.declared.job.Job.{Job}
use Rattle.crew_trait.specs.declared.reply.Reply.{Reply}
use Rattle.crew_trait.specs.declared.event.CrewEvent.{CrewEvent}
use Rattle.crew_trait.specs.declared.event.CrewEvent.TheVariants.{Started, Ended}
use Rattle.crew_trait.specs.Events.{busy, busy_after, IsSomeBusy, slots_in_flight, slots_after, without_slot}
use Rattle.crew.specs.Sound.{times, ListsBusy}

abbrev pub one_if : Bool → ℕ
one_if b = cond b 1 0

times-push : (s : ℕ) (xs : List ℕ) (x : ℕ) → times s (xs ++ x ∷ []) ≡ times s xs + cond (eqb x s) 1 0
times-push s [] x = omega arith
times-push s (y ∷ xs) x = omega (arith, times-push s xs x)

times-remove : (s : ℕ) (xs : List ℕ) (i x : ℕ) → i < length xs → x ≡ get_or xs i x → times s (remove xs i) + cond (eqb x s) 1 0 ≡ times s xs
times-remove s [] i x lt is = absurd (omega arith)
times-remove s (y ∷ xs) zero x lt is = let e : one_if (eqb x s) ≡ one_if (eqb y s) = ap (λ k. one_if (eqb k s)) is in omega (arith, e)
times-remove s (y ∷ xs) (suc i) x lt is = let e = times-remove s xs i x (omega arith) is in omega arith

true_if : (b : Bool) → 1 ≤ cond b 1 0 → b ≡ true
true_if true le = refl
true_if false le = absurd (omega arith)

pub lists_none : (xs : List ℕ) (es : List CrewEvent) → xs ≡ [] → es ≡ [] → ListsBusy xs es
lists_none xs es a b = record { each = λ s. ap (times s) a ∙ sym (ap (λ e. one_if (busy s e)) b) }

-- a slot of the list is busy
pub lists_busy : (xs : List ℕ) (es : List CrewEvent) (i x : ℕ) → ListsBusy xs es → i < length xs → x ≡ get_or xs i x → busy x es ≡ true
lists_busy xs es i x h lt is =
    let e = times-remove x xs i x lt is in
    let y : eqb x x ≡ true = grind (arith, nat_tests) in
    let one : one_if (eqb x x) ≡ 1 = ap one_if y in
    true_if (busy x es) (omega (arith, h.each x, one, e))

times-none : (xs : List ℕ) (s : ℕ) → length xs ≡ 0 → times s xs ≡ 0
times-none [] s e = refl
times-none (x ∷ xs) s e = absurd (omega arith)

-- if a child is in flight, the list has a slot
pub lists_some : (xs : List ℕ) (es : List CrewEvent) → ListsBusy xs es → IsSomeBusy es → 0 < length xs
lists_some xs es h some =
    let e = h.each some.slot ∙ ap one_if some.is_busy in
    ⊎_elim (λ none. let z = times-none xs some.slot none in absurd (omega arith)) (λ other. omega arith) (cases_eq (length xs) 0)

pub lists_start : (xs xs' : List ℕ) (es es' : List CrewEvent) (slot : ℕ) (job : Job) (number : ℕ) → ListsBusy xs es → busy slot es ≡ false → xs' ≡ xs ++ slot ∷ [] → es' ≡ es ++ Started slot job number ∷ [] → ListsBusy xs' es'
lists_start xs xs' es es' slot job number h free xs_is es_is =
    record {
      each = λ s.
          let now : busy s es' ≡ cond (eqb slot s) true (busy s es) = ap (busy s) es_is ∙ fold-append (busy_after s) false es (Started slot job number ∷ []) in
          ap (times s) xs_is ∙ times-push s xs slot ∙ ap (λ n. n + cond (eqb slot s) 1 0) (h.each s) ∙ ⊎_elim
          (λ same.
          let f : busy s es ≡ false = ap (λ x. busy x es) (sym same) ∙ free in
          let y : eqb slot s ≡ true = grind (arith, nat_tests) in
          rw (f, y) (sym (ap one_if (now ∙ ap (λ b. cond b true (busy s es)) y))))
          (λ other.
          let y : eqb slot s ≡ false = grind (arith, nat_tests) in
          let z = now ∙ ap (λ b. cond b true (busy s es)) y in
          omega (arith, ap one_if y, ap one_if z))
          (cases_eq slot s);
    }

pub lists_end : (xs xs' : List ℕ) (es es' : List CrewEvent) (i slot : ℕ) (reply : Reply) (number : ℕ) → ListsBusy xs es → i < length xs → slot ≡ get_or xs i slot → xs' ≡ remove xs i → es' ≡ es ++ Ended slot reply number ∷ [] → ListsBusy xs' es'
lists_end xs xs' es es' i slot reply number h lt is xs_is es_is =
    record {
      each = λ s.
          let now : busy s es' ≡ cond (eqb slot s) false (busy s es) = ap (busy s) es_is ∙ fold-append (busy_after s) false es (Ended slot reply number ∷ []) in
          let gone = times-remove s xs i slot lt is in
          let old = h.each s in
          ap (times s) xs_is ∙ ⊎_elim
          (λ same.
          let y : eqb slot s ≡ true = grind (arith, nat_tests) in
          let z = now ∙ ap (λ b. cond b false (busy s es)) y in
          let was : busy s es ≡ true = ap (λ x. busy x es) (sym same) ∙ lists_busy xs es i slot h lt is in
          omega (arith, ap one_if y, ap one_if z, ap one_if was))
          (λ other.
          let y : eqb slot s ≡ false = grind (arith, nat_tests) in
          let z = now ∙ ap (λ b. cond b false (busy s es)) y in
          omega (arith, ap one_if y, ap one_if z))
          (cases_eq slot s);
    }

-- the place of a slot that occurs in a list, without which the list is one shorter
record Place (slot : ℕ) (slots : List ℕ) : Type 0 where
  pub place : ℕ
  pub within : place < length slots
  pub found : slot ≡ get_or slots place slot
  pub shorter : length (remove slots place) + 1 ≡ length slots

place_at_head : (slot x : ℕ) (xs : List ℕ) → x ≡ slot → Place slot (x ∷ xs)
place_at_head slot x xs same = record { place = 0; within = omega arith; found = sym same; shorter = omega arith }

place_in_rest : (slot x : ℕ) (xs : List ℕ) → Place slot xs → Place slot (x ∷ xs)
place_in_rest slot x xs p = record {
  place = suc p.place;
  within = let w = p.within in omega arith;
  found = p.found;
  shorter = let s = p.shorter in omega arith;
}

place_of : (slot : ℕ) (slots : List ℕ) → 0 < times slot slots → Place slot slots
place_of slot [] some = absurd (omega arith)
place_of slot (x ∷ xs) some =
    ⊎_elim
    (λ same. place_at_head slot x xs same)
    (λ other.
    let test : eqb x slot ≡ false = grind (arith, nat_tests) in
    let none : one_if (eqb x slot) ≡ 0 = ap one_if test in
    place_in_rest slot x xs (place_of slot xs (omega (arith, none))))
    (cases_eq x slot)

-- the slots that are left after the end of a child that is in flight
pub record Left (slots : List ℕ) (events : List CrewEvent) : Type 0 where
  pub rest : List ℕ
  pub lists : ListsBusy rest events
  pub shorter : length rest + 1 ≡ length slots

pub lists_left : (xs : List ℕ) (es es' : List CrewEvent) (slot : ℕ) (reply : Reply) (number : ℕ) → ListsBusy xs es → busy slot es ≡ true → es' ≡ es ++ Ended slot reply number ∷ [] → Left xs es'
lists_left xs es es' slot reply number h was is =
    let once : times slot xs ≡ 1 = h.each slot ∙ ap one_if was in
    let at = place_of slot xs (omega (arith, once)) in
    record {
      rest = remove xs at.place;
      lists = lists_end xs (remove xs at.place) es es' at.place slot reply number h at.within at.found refl is;
      shorter = at.shorter;
    }

-- the slots in flight after a start, and after an end
pub slots_start : (xs xs' : List ℕ) (es es' : List CrewEvent) (slot : ℕ) (job : Job) (number : ℕ) → xs ≡ slots_in_flight es → xs' ≡ xs ++ slot ∷ [] → es' ≡ es ++ Started slot job number ∷ [] → xs' ≡ slots_in_flight es'
slots_start xs xs' es es' slot job number flying more is =
    more ∙ ap (λ v. v ++ slot ∷ []) flying ∙ sym (ap slots_in_flight is ∙ fold-append slots_after [] es (Started slot job number ∷ []))

false_if : (b : Bool) (n : ℕ) → cond b 1 0 + n ≤ 1 → 1 ≤ n → b ≡ false
false_if true n most some = absurd (omega arith)
false_if false n most some = refl

one_most : (b : Bool) → cond b 1 0 ≤ 1
one_most true = omega arith
one_most false = omega arith

-- a slot that occurs once is removed where it is
without_at : (xs : List ℕ) (i x : ℕ) → i < length xs → x ≡ get_or xs i x → times x xs ≤ 1 → without_slot x xs ≡ remove xs i
without_at [] i x lt is once = absurd (omega arith)
without_at (y ∷ xs) zero x lt is once = let e : eqb y x ≡ true = grind (arith, nat_tests) in ap (λ b. cond b xs (y ∷ without_slot x xs)) e
without_at (y ∷ xs) (suc i) x lt is once =
    let gone = times-remove x xs i x (omega arith) is in
    let same : eqb x x ≡ true = grind (arith, nat_tests) in
    let one : one_if (eqb x x) ≡ 1 = ap one_if same in
    let some : 1 ≤ times x xs = omega (arith, gone, one) in
    let other : eqb y x ≡ false = false_if (eqb y x) (times x xs) once some in
    ap (λ b. cond b xs (y ∷ without_slot x xs)) other ∙ ap (λ t. y ∷ t) (without_at xs i x (omega arith) is (omega (arith, once)))

pub slots_end : (xs xs' : List ℕ) (es es' : List CrewEvent) (i slot : ℕ) (reply : Reply) (number : ℕ) → xs ≡ slots_in_flight es → ListsBusy xs es
    → i < length xs → slot ≡ get_or xs i slot → xs' ≡ remove xs i → es' ≡ es ++ Ended slot reply number ∷ [] → xs' ≡ slots_in_flight es'
slots_end xs xs' es es' i slot reply number flying h lt at xs_is is =
    let once : times slot xs ≤ 1 = omega (arith, h.each slot, one_most (busy slot es)) in
    xs_is ∙ sym (ap slots_in_flight is ∙ fold-append slots_after [] es (Ended slot reply number ∷ []) ∙ ap (λ v. without_slot slot v) (sym flying) ∙ without_at xs i slot lt at once)

taken : (xs xs' : List ℕ) (slot : ℕ) → 0 < length xs → slot ≡ get_or xs 0 slot → xs' ≡ remove xs 0 → xs ≡ slot ∷ xs'
taken [] xs' slot lt at is = absurd (omega arith)
taken (x ∷ xs) xs' slot lt at is = ap (λ s. s ∷ xs) (sym at) ∙ ap (λ t. slot ∷ t) (sym is)

-- the first slot, and those that are left without it
pub first_and_rest : (xs xs' : List ℕ) (i slot : ℕ) → i < length xs → slot ≡ get_or xs i slot → xs' ≡ remove xs i → i ≡ 0 → xs ≡ slot ∷ xs'
first_and_rest xs xs' i slot lt at xs_is none = taken xs xs' slot (omega arith) (at ∙ ap (λ k. get_or xs k slot) none) (xs_is ∙ ap (remove xs) none)

-- the place of the oldest is one of those in use
in_use : (xs : List ℕ) (es : List CrewEvent) (place : ℕ) → ListsBusy xs es → IsSomeBusy es → (0 < place → place < length xs) → place < length xs
in_use xs es place h some later = ⊎_elim (λ none. omega (arith, none, lists_some xs es h some)) (λ other. later (omega (arith, other))) (cases_eq place 0)

pub place_within : (xs : List ℕ) (es es0 : List CrewEvent) (place : ℕ) → xs ≡ slots_in_flight es → ListsBusy xs es → es ≡ es0 → IsSomeBusy es0
    → (0 < place → place < length (slots_in_flight es0)) → place < length xs
place_within xs es es0 place flying h same some later =
    let len : length xs ≡ length (slots_in_flight es0) = ap length flying ∙ ap (λ e. length (slots_in_flight e)) same in
    in_use xs es place h (subst IsSomeBusy (sym same) some) (λ p. omega (arith, later p, len))

pub all_rest : (P : ℕ → Type 0) (xs : List ℕ) (i : ℕ) → All P xs → All P (remove xs i)
all_rest P [] zero h = h
all_rest P [] (suc i) h = h
all_rest P (x ∷ xs) zero h = λ k d lt. h (suc k) d (omega arith)
all_rest P (x ∷ xs) (suc i) h = All-cons P x (remove xs i) (h 0 x (omega arith)) (all_rest P xs i (λ k d lt. h (suc k) d (omega arith)))

pub below_rest : (xs : List ℕ) (i : ℕ) → All (λ x. x < 16) xs → All (λ x. x < 16) (remove xs i)
below_rest xs i h = all_rest (λ x. x < 16) xs i h

pub below_push : (xs : List ℕ) (s : ℕ) → All (λ x. x < 16) xs → s < 16 → All (λ x. x < 16) (xs ++ s ∷ [])
below_push xs s h lt = All-push (λ x. x < 16) xs s h lt

pub below_none : (xs : List ℕ) → xs ≡ [] → All (λ x. x < 16) xs
below_none xs is = subst (All (λ x. x < 16)) (sym is) (λ k d lt. absurd (omega arith))
