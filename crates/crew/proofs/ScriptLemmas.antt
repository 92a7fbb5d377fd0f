-- The state of a crew in memory after each call, from the values of its fields.
use Rattle.std.proofs.Common.{◌≡◌, ◌≢◌, ℕ, ◌+◌, ◌<◌, true, false, List, [], ◌∷◌, ◌++◌, length, get_or, sym, ap, ◌∙◌}
use Rattle.std.specs.Prelude.{remove}
use Rattle.std.proofs.lemmas.Bool.{cond-true, cond-false}
use Rattle.std.proofs.lemmas.List.{get_or_default}
use Rattle.crew_jobs.specs.declared.job.Job.{Job}
use Rattle.crew_trait.specs.declared.reply.Reply.{Reply}
use Rattle.crew_trait.specs.declared.reply.Reply.TheVariants.{StartRefused}
use Rattle.crew_trait.specs.declared.event.CrewEvent.{CrewEvent}
use Rattle.crew_trait.specs.declared.event.CrewEvent.TheVariants as happens
use Rattle.crew.specs.declared.event.Event.TheVariants.{Started, Refused, Ended}
use Rattle.crew.specs.Child.{Child}
use Rattle.crew_trait.specs.Events.{failure_of}
use Rattle.crew.specs.Scripted.{Scripted, is_start_refused, started_with, after_start, place, order_after, no_child, ending, after_next}

same : (x y : Scripted) → x.account.events ≡ y.account.events → x.account.attempts ≡ y.account.attempts → x.account.failures ≡ y.account.failures → x.listed ≡ y.listed → x.replies ≡ y.replies → x.children ≡ y.children → x.order ≡ y.order → x ≡ y
same x y e a f l r c o =
    ap (λ v. record { account = record { events = v; attempts = x.account.attempts; failures = x.account.failures }; listed = x.listed; replies = x.replies; children = x.children; order = x.order }) e
    ∙ ap (λ v. record { account = record { events = y.account.events; attempts = v; failures = x.account.failures }; listed = x.listed; replies = x.replies; children = x.children; order = x.order }) a
    ∙ ap (λ v. record { account = record { events = y.account.events; attempts = y.account.attempts; failures = v }; listed = x.listed; replies = x.replies; children = x.children; order = x.order }) f
    ∙ ap (λ v. record { account = y.account; listed = v; replies = x.replies; children = x.children; order = x.order }) l
    ∙ ap (λ v. record { account = y.account; listed = y.listed; replies = v; children = x.children; order = x.order }) r
    ∙ ap (λ v. record { account = y.account; listed = y.listed; replies = y.replies; children = v; order = x.order }) c
    ∙ ap (λ v. record { account = y.account; listed = y.listed; replies = y.replies; children = y.children; order = v }) o

-- a start after the end of the list
pub start_past : (slot : ℕ) (job : Job) (m new : Scripted) → m.replies ≡ [] → new.account.events ≡ m.account.events → new.account.attempts ≡ m.account.attempts + 1 → new.account.failures ≡ m.account.failures + 1 → new.listed ≡ m.listed → new.replies ≡ [] → new.children ≡ m.children → new.order ≡ m.order → new ≡ after_start slot job m
unfolding after_start
start_past slot job m new none e a f l r c o =
    same new (record m { account = record { events = m.account.events; attempts = m.account.attempts + 1; failures = m.account.failures + 1 } }) e a f l (r ∙ sym none) c o
    ∙ sym (ap (λ rs. started_with rs slot job m) none)

-- a start that its reply refuses
pub start_refused : (slot : ℕ) (job : Job) (m new : Scripted) (reply : Reply) (rest : List Reply) → m.replies ≡ reply ∷ rest → is_start_refused reply ≡ true → new.account.events ≡ m.account.events → new.account.attempts ≡ m.account.attempts + 1 → new.account.failures ≡ m.account.failures + 1 → new.listed ≡ m.listed ++ Refused slot ∷ [] → new.replies ≡ rest → new.children ≡ m.children → new.order ≡ m.order → new ≡ after_start slot job m
unfolding after_start
start_refused slot job m new reply rest first refused e a f l r c o =
    same new (record m { account = record { events = m.account.events; attempts = m.account.attempts + 1; failures = m.account.failures + 1 }; listed = m.listed ++ Refused slot ∷ []; replies = rest }) e a f l r c o
    ∙ sym (ap (λ rs. started_with rs slot job m) first ∙ cond-true _ _ _ refused)

-- a start that is taken
pub start_taken : (slot : ℕ) (job : Job) (m new : Scripted) (reply : Reply) (rest : List Reply) → m.replies ≡ reply ∷ rest → is_start_refused reply ≡ false → new.account.events ≡ m.account.events ++ happens.Started slot job (m.account.attempts + 1) ∷ [] → new.account.attempts ≡ m.account.attempts + 1 → new.account.failures ≡ m.account.failures → new.listed ≡ m.listed ++ Started slot ∷ [] → new.replies ≡ rest → new.children ≡ m.children ++ record { slot = slot; reply = reply } ∷ [] → new.order ≡ m.order → new ≡ after_start slot job m
unfolding after_start
start_taken slot job m new reply rest first taken e a f l r c o =
    same new (record m {
      account = record { events = m.account.events ++ happens.Started slot job (m.account.attempts + 1) ∷ []; attempts = m.account.attempts + 1; failures = m.account.failures };
      listed = m.listed ++ Started slot ∷ [];
      replies = rest;
      children = m.children ++ record { slot = slot; reply = reply } ∷ [];
    }) e a f l r c o
    ∙ sym (ap (λ rs. started_with rs slot job m) first ∙ cond-false _ _ _ taken)

-- the child that ends
pub ending_is : (m : Scripted) (at : ℕ) (child : Child) → at ≡ place m.order m.children → at < length m.children → child ≡ get_or m.children at child → child ≡ ending m
unfolding ending
ending_is m at child here inside is = is ∙ get_or_default m.children at child no_child inside ∙ ap (λ i. get_or m.children i no_child) here

pub next_is : (m new : Scripted) (at : ℕ) (child : Child) → at ≡ place m.order m.children → at < length m.children → child ≡ get_or m.children at child → new.account.events ≡ m.account.events ++ happens.Ended child.slot child.reply m.account.attempts ∷ [] → new.account.attempts ≡ m.account.attempts → new.account.failures ≡ m.account.failures + failure_of child.reply → new.listed ≡ m.listed ++ Ended child.slot ∷ [] → new.replies ≡ m.replies → new.children ≡ remove m.children at → new.order ≡ order_after m.order → new ≡ after_next m
unfolding after_next
next_is m new at child here inside is e a f l r c o =
    let end : child ≡ ending m = ending_is m at child here inside is in
    same new (after_next m)
    (e ∙ ap (λ k. m.account.events ++ happens.Ended k.slot k.reply m.account.attempts ∷ []) end)
    a
    (f ∙ ap (λ k. m.account.failures + failure_of k.reply) end)
    (l ∙ ap (λ k. m.listed ++ Ended k.slot ∷ []) end)
    r
    (c ∙ ap (remove m.children) here)
    o

pub ended_events : (es es' : List CrewEvent) (slot slot' : ℕ) (reply reply' : Reply) (number : ℕ) → es' ≡ es ++ happens.Ended slot reply number ∷ [] → slot ≡ slot' → reply ≡ reply' → es' ≡ es ++ happens.Ended slot' reply' number ∷ []
ended_events es es' slot slot' reply reply' number is s r =
    is ∙ ap (λ v. es ++ happens.Ended v reply number ∷ []) s ∙ ap (λ v. es ++ happens.Ended slot' v number ∷ []) r

pub not_refused : (reply : Reply) → is_start_refused reply ≡ false → reply ≢ StartRefused
not_refused reply kept is = let clash : true ≡ false = sym (ap is_start_refused is) ∙ kept in cc

-- the front of a list may be replaced by an equal one
pub moved : {A : Type 0} (xs front back more : List A) → xs ≡ front ++ more → front ≡ back → xs ≡ back ++ more
moved xs front back more is other = is ∙ ap (λ v. v ++ more) other
