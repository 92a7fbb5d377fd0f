-- Which slots of a crew of real children have the child of their last start.
use Rattle.std.proofs.Common.{◌≡◌, ℕ, ◌<◌, true, false, cond, eqb, List, [], ◌∷◌, ◌++◌, Option, Some, None, is_some, length, take, get_or, sym, ap, ◌∙◌, subst, arith}
use Rattle.std.specs.Prelude.{◌≢◌, ◌⊎◌, IfSome, IsSome, codes, option_map, remove, set}
use Rattle.std.proofs.Common.{inl, inr, refl}
use Rattle.std.proofs.lemmas.Bool.Decides.{nat_tests}
use Rattle.std.proofs.lemmas.List.{get_or-set_same, get_or-set_other, get_or_default, length-set, set-get_or}
use Rattle.std.proofs.lemmas.List.Elements.{All-push}
use Rattle.std.proofs.lemmas.List.Sums.{fold-append}
use Rattle.crew_jobs.specs.declared.job.Job.{Job}
use Rattle.crew_trait.specs.declared.reply.Reply.{Reply}
use Rattle.crew_trait.specs.declared.event.CrewEvent.{CrewEvent}
use Rattle.crew_trait.specs.declared.event.CrewEvent.TheVariants.{Started, Ended}
use Rattle.crew_trait.specs.Events.{busy, busy_after}
use Rattle.crew_refusals.specs.Shown.{IsCauseOf}
use Rattle.crew_launch.specs.Ending.{IsExplained, IsOfEnd}
use Rattle.crew_trait.specs.declared.reply.Reply.TheVariants.{Answer, StartRefused, EndRefused}
use Rattle.crew.specs.Holding.{Ends, Flying, Over, Table, HaveChildren, IsEndOf, IsEndTold, RefusesStart, Starts, child_in, number_after, number_in, number_of, with_told}
use Rattle.crew.specs.Sound.{ListsBusy}
use Rattle.crew.proofs.SlotLemmas.{all_rest, lists_busy}

-- one child was looked at
pub kept_at : {X : Type 0} (old : List X) (at : ℕ) (was is_now : X) → is_now ≡ was → was ≡ get_or old at was → set old at is_now ≡ old
kept_at old at was is_now same read = ap (set old at) (same ∙ read) ∙ set-get_or old at was

-- the number of a slot's last start, after one more event
number_other : (s slot number : ℕ) (job : Job) (events after : List CrewEvent) → after ≡ events ++ Started slot job number ∷ [] → s ≢ slot → number_in s after ≡ number_in s events
number_other s slot number job events after is other =
    let y : eqb slot s ≡ false = grind (arith, nat_tests) in
    ap (number_in s) is ∙ fold-append (number_after s) 0 events (Started slot job number ∷ []) ∙ ap (λ b. cond b number (number_in s events)) y

number_same : (slot number : ℕ) (job : Job) (events after : List CrewEvent) → after ≡ events ++ Started slot job number ∷ [] → number_in slot after ≡ number
number_same slot number job events after is =
    let y : eqb slot slot ≡ true = grind (arith, nat_tests) in
    ap (number_in slot) is ∙ fold-append (number_after slot) 0 events (Started slot job number ∷ []) ∙ ap (λ b. cond b number (number_in slot events)) y

number_ended : (s slot number : ℕ) (reply : Reply) (events after : List CrewEvent) → after ≡ events ++ Ended slot reply number ∷ [] → number_in s after ≡ number_in s events
number_ended s slot number reply events after is = ap (number_in s) is ∙ fold-append (number_after s) 0 events (Ended slot reply number ∷ [])

-- a slot of the list is another one than a slot that is not in flight
apart : (slots : List ℕ) (events : List CrewEvent) (slot k d : ℕ) → ListsBusy slots events → busy slot events ≡ false → k < length slots → get_or slots k d ≢ slot
apart slots events slot k d lists free lt = λ same.
    let s = get_or slots k d in
    let is_busy : busy s events ≡ true = lists_busy slots events k s lists lt (get_or_default slots k d s lt) in
    let clash : true ≡ false = sym is_busy ∙ ap (λ x. busy x events) same ∙ free in cc

-- the number of the child of an entry
abbrev numbered : Option Flying → Option ℕ
numbered child = option_map (λ c. c.number) child

pub have_none : (children : List (Option Flying)) (events : List CrewEvent) (slots : List ℕ) → slots ≡ [] → HaveChildren children events slots
have_none children events slots is = subst (HaveChildren children events) (sym is) (λ k d lt. absurd (omega arith))

-- a start that was taken
pub have_start : (old new : Table) (events after : List CrewEvent) (slots new_slots : List ℕ) (slot number : ℕ) (job : Job)
    → slot < length old.children → Starts old new slot number → new_slots ≡ slots ++ slot ∷ [] → after ≡ events ++ Started slot job number ∷ []
    → ListsBusy slots events → busy slot events ≡ false → HaveChildren old.children events slots → HaveChildren new.children after new_slots
have_start old new events after slots new_slots slot number job lt put more starts lists free h =
    let child : Option Flying = Some (record { number = number; left = put.0 }) in
    let children = set old.children slot child in
    let at : numbered (get_or children slot None) ≡ Some (number_in slot after) = ap numbered (get_or-set_same old.children slot child None lt) ∙ ap Some (sym (number_same slot number job events after starts)) in
    let each : HaveChildren children after slots = λ k d in_slots.
    let other = apart slots events slot k d lists free in_slots in
    ap numbered (get_or-set_other old.children slot (get_or slots k d) child None other) ∙ h k d in_slots ∙ ap Some (sym (number_other (get_or slots k d) slot number job events after starts other)) in
    let all : HaveChildren children after (slots ++ slot ∷ []) = All-push (λ s. numbered (get_or children s None) ≡ Some (number_in s after)) slots slot each at in
    subst (HaveChildren new.children after) (sym more) (subst (λ l. HaveChildren l after (slots ++ slot ∷ [])) (sym (ap (λ t. t.children) put.1)) all)

pub start_sized : (old new : Table) (slot number n : ℕ) → Starts old new slot number → length old.children ≡ n → length new.children ≡ n
start_sized old new slot number n put is = ap (λ t. length t.children) put.1 ∙ length-set old.children slot _ ∙ is

-- a start that was refused
pub refused_sized : (old new : Table) (number n : ℕ) (job : Job) → RefusesStart old new number job → length old.children ≡ n → length new.children ≡ n
refused_sized old new number n job refused is = ap (λ t. length t.children) refused.2 ∙ is

pub have_refused : (old new : Table) (events after : List CrewEvent) (slots new_slots : List ℕ) (number : ℕ) (job : Job) → RefusesStart old new number job
    → new_slots ≡ slots → after ≡ events → HaveChildren old.children events slots → HaveChildren new.children after new_slots
have_refused old new events after slots new_slots number job refused same_slots same_events h =
    subst (λ l. HaveChildren l after new_slots) (sym (ap (λ t. t.children) refused.2))
    (subst (λ es. HaveChildren old.children es new_slots) (sym same_events) (subst (HaveChildren old.children events) (sym same_slots) h))

pub end_sized : (old new : Table) (slot number n : ℕ) (reply : Reply) → Ends old new slot number reply → length old.children ≡ n → length new.children ≡ n
end_sized old new slot number n reply ends is = ap length ends.1 ∙ length-set old.children slot None ∙ is

-- a change in a slot that is not in flight
have_others : (children new_children : List (Option Flying)) (slots : List ℕ) (events : List CrewEvent) (slot : ℕ) (new : Option Flying)
    → new_children ≡ set children slot new → ListsBusy slots events → busy slot events ≡ false → HaveChildren children events slots → HaveChildren new_children events slots
have_others children new_children slots events slot new is lists free h =
    subst (λ l. HaveChildren l events slots) (sym is)
    (λ k d lt. ap numbered (get_or-set_other children slot (get_or slots k d) new None (apart slots events slot k d lists free lt)) ∙ h k d lt)

-- a slot is not in flight after its end
gone : (events after : List CrewEvent) (slot number : ℕ) (reply : Reply) → after ≡ events ++ Ended slot reply number ∷ [] → busy slot after ≡ false
gone events after slot number reply is =
    let y : eqb slot slot ≡ true = grind (arith, nat_tests) in
    ap (busy slot) is ∙ fold-append (busy_after slot) false events (Ended slot reply number ∷ []) ∙ ap (λ b. cond b false (busy slot events)) y

-- an end
pub have_end : (children new_children : List (Option Flying)) (slots new_slots : List ℕ) (events after : List CrewEvent) (place slot number : ℕ) (reply : Reply)
    → new_children ≡ set children slot None → new_slots ≡ remove slots place → after ≡ events ++ Ended slot reply number ∷ []
    → ListsBusy new_slots after → HaveChildren children events slots → HaveChildren new_children after new_slots
have_end children new_children slots new_slots events after place slot number reply is others ends lists h =
    let later : HaveChildren children after slots = λ k d lt. h k d lt ∙ ap Some (sym (number_ended (get_or slots k d) slot number reply events after ends)) in
    have_others children new_children new_slots after slot None is lists (gone events after slot number reply ends)
    (subst (HaveChildren children after) (sym others) (all_rest (λ s. numbered (get_or children s None) ≡ Some (number_in s after)) slots place later))

is_numbered : (child : Option Flying) (number : ℕ) → numbered child ≡ Some number → IsSome child
is_numbered None number is = ap is_some is
is_numbered (Some child) number is = refl

number_is : (child : Option Flying) (number : ℕ) → numbered child ≡ Some number → number_of child ≡ number
number_is None number is = let clash : false ≡ true = ap is_some is in cc
number_is (Some child) number is = ap (λ n. number_of (option_map (λ k. record { number = k; left = None }) n)) is

-- the child of a slot in flight, and its number
at_place : (children : List (Option Flying)) (slots : List ℕ) (events : List CrewEvent) (place slot : ℕ) → place < length slots → slot ≡ get_or slots place slot
    → HaveChildren children events slots → numbered (get_or children slot None) ≡ Some (number_in slot events)
at_place children slots events place slot lt at h =
    subst (λ s. numbered (get_or children s None) ≡ Some (number_in s events)) (sym at) (h place slot lt)

pub has_child : (children : List (Option Flying)) (slots : List ℕ) (events : List CrewEvent) (place slot : ℕ) → place < length slots → slot ≡ get_or slots place slot → HaveChildren children events slots → IsSome (get_or children slot None)
has_child children slots events place slot lt at h = is_numbered (get_or children slot None) (number_in slot events) (at_place children slots events place slot lt at h)

-- the end of the child of a slot in flight, which has the number of the slot's last start
pub ends_at : (old new : Table) (slots : List ℕ) (events : List CrewEvent) (place slot : ℕ) (reply : Reply) → place < length slots → slot ≡ get_or slots place slot
    → HaveChildren old.children events slots → Ends old new slot (number_of (child_in old slot)) reply → Ends old new slot (number_in slot events) reply
ends_at old new slots events place slot reply lt at h ends =
    subst (λ n. Ends old new slot n reply) (number_is (child_in old slot) (number_in slot events) (at_place old.children slots events place slot lt at h)) ends

-- an end is no refused start
pub end_is_none : (number : ℕ) (child : Option Flying) (last : Option Over) (reply : Reply) → IsEndOf number child last reply → reply ≢ StartRefused
end_is_none number (Some child) (Some over) reply end is = (subst (IsEndOf number (Some child) (Some over)) is end).3
end_is_none number (Some child) None reply end is = absurd end
end_is_none number None last reply end is = absurd end

-- a reply for which memory runs out is a refused end
refused_end : (number : ℕ) (child : Option Flying) (last : Option Over) (reply : Reply) → IsEndOf number child last reply → IsEndOf number child last EndRefused
refused_end number (Some child) (Some over) reply end = (end.0, end.1, end.2, tt)
refused_end number (Some child) None reply end = absurd end
refused_end number None last reply end = absurd end

pub end_doubled : (number : ℕ) (child : Option Flying) (last : Option Over) (reply kept : Reply) → (kept ≡ reply) ⊎ (kept ≡ EndRefused) → IsEndOf number child last reply → IsEndOf number child last kept
end_doubled number child last reply kept (inl same) end = subst (IsEndOf number child last) (sym same) end
end_doubled number child last reply kept (inr refused) end = subst (IsEndOf number child last) (sym refused) (refused_end number child last reply end)

-- what is kept of an end's cause
pub told_end : (number : ℕ) (reply : Reply) (cause : Option (Option (List ℕ))) (old new : List (ℕ × Option (List ℕ))) → IsExplained reply cause → new ≡ with_told old number cause → IsEndTold number reply old new
told_end number (Answer status text) cause old new none is = is ∙ ap (with_told old number) none
told_end number StartRefused cause old new none is = absurd none
told_end number EndRefused None old new none is = absurd none
told_end number EndRefused (Some cause) old new of_end is = (cause, of_end, is)

-- a cause of a read is one of an end
pub of_read : (cause : Option (List ℕ)) → IfSome cause (IsCauseOf (codes "read")) → IsOfEnd cause
of_read None is = is
of_read (Some line) is = inl is

-- the end of a child that was lent from its slot
pub ends_in : (old : Table) (children : List (Option Flying)) (before last : Option Over) (known causes : List (ℕ × Option (List ℕ))) (slot : ℕ) (child left : Option Flying) (reply : Reply)
    → record { children = children; last = before; causes = known } ≡ old → child ≡ get_or children slot None → left ≡ None
    → IsEndOf (number_of child) child last reply → IsEndTold (number_of child) reply known causes
    → Ends old (record { children = set children slot left; last = last; causes = causes }) slot (number_of (child_in old slot)) reply
ends_in old children before last known causes slot child left reply view at none end told =
    let new : Table = record { children = set children slot left; last = last; causes = causes } in
    let inside : Table = record { children = children; last = before; causes = known } in
    let here : Ends inside new slot (number_of child) reply =
    (subst (λ c. IsEndOf (number_of child) c last reply) at end, ap (set children slot) none, told) in
    subst (λ t. Ends t new slot (number_of (child_in t slot)) reply) view
    (subst (λ c. Ends inside new slot (number_of c) reply) at here)
