-- The invariant of serving, after a start and after an end.
use Rattle.std.proofs.Common.{◌≡◌, ℕ, zero, suc, ◌+◌, ◌-◌, ◌<◌, ◌≤◌, true, List, [], ◌∷◌, ◌++◌, length, drop, get_or, ◌^◌, Option, Some, None, refl, sym, ap, ◌∙◌, subst, ⊎_elim, inl, inr, arith, append_assoc}
use Rattle.std.specs.Prelude.{slice_get, slice_set}
use Rattle.std.proofs.Math.ListN.{length-set}
use Rattle.std.proofs.lemmas.Option.{get_or_from_slice_get}
use Rattle.std.proofs.lemmas.Bool.{cases_eq}
use Rattle.crew_jobs.specs.declared.job.Job.{Job}
use Rattle.crew_trait.specs.declared.reply.Reply.{Reply}
use Rattle.crew_trait.specs.declared.reply.Reply.TheVariants.{Answer, StartRefused, EndRefused}
use Rattle.crew_trait.specs.declared.event.CrewEvent.TheVariants.{Started, Ended}
use Rattle.crew_trait.specs.Events.{Account, Fate, Unstarted, Running, Replied, fate_of, ended_by, busy, IsSomeBusy, failure_of}
use Rattle.proberun.specs.Serving.{Serving, HasHeld, HeldBelow, Tracks, is_held, open_count, failed_count, MayWait}
use Rattle.proberun.specs.Starts.{Fills}
use Rattle.proberun.proofs.EventLemmas.{fate-push, fate-started, fate-other, fate-ended, ended-other, busy-started, busy-started_other, busy-ended, busy-ended_other, starts-push, starts-end, flying-push, least-push, least-end, fills-start, fills-end}
use Rattle.proberun.proofs.TableLemmas.{get-set_same, get-set_other, held-set_job, held-set_none, held-most, held-free, held-all, held-some}

-- A reply counts if it is no answer.
pub failed_count-set : (rs : List (Option Reply)) (k : ℕ) (r : Reply) → slice_get rs k ≡ Some None → failed_count (slice_set rs k (Some r)) ≡ failure_of r + failed_count rs
failed_count-set [] k r e = cc
failed_count-set (None ∷ rs) zero r e = refl
failed_count-set (Some x ∷ rs) zero r e = let same : Some x ≡ None = cc in cc
failed_count-set (None ∷ rs) (suc k) r e = failed_count-set rs k r e
failed_count-set (Some x ∷ rs) (suc k) r e = omega (arith, failed_count-set rs k r e)

failure_most : (r : Reply) → failure_of r ≤ 1
failure_most (Answer status text) = omega arith
failure_most StartRefused = omega arith
failure_most EndRefused = omega arith

-- A job that was not attempted has no reply.
pub open_at : (f : Fate) (started k : ℕ) (replies : List (Option Reply)) (table : List (Option ℕ)) → started ≤ k → Tracks f started k replies table → (f ≡ Unstarted) × (slice_get replies k ≡ Some None)
open_at Unstarted started k replies table le t = (refl, t.1 le)
open_at (Running s) started k replies table le t = absurd (omega (arith, t.0))
open_at (Replied r) started k replies table le t = absurd (omega (arith, t.0))

-- Another job, when one more is started in a free slot.
track_on : (f : Fate) (started k slot : ℕ) (replies : List (Option Reply)) (table : List (Option ℕ)) → (k ≡ started → ⊥) → slice_get table slot ≡ Some None → Tracks f started k replies table → Tracks f (started + 1) k replies (slice_set table slot (Some started))
track_on Unstarted started k slot replies table ne free t = (λ lt. t.0 (omega arith), λ le. t.1 (omega arith))
track_on (Running s) started k slot replies table ne free t =
    let other : s ≡ slot → ⊥ = λ e. let h : slice_get table slot ≡ Some (Some k) = subst (λ x. slice_get table x ≡ Some (Some k)) e t.2 in let both : Some (Some k) ≡ Some None = sym h ∙ free in cc in
    (omega (arith, t.0), t.1, get-set_other table slot s (Some started) other ∙ t.2)
track_on (Replied r) started k slot replies table ne free t = (omega (arith, t.0), t.1)

pub serve_start : (before : Account) (jobs : List Job) (started : ℕ) (replies : List (Option Reply)) (table : List (Option ℕ)) (now new : Account) (slot : ℕ) (job : Job) → Serving before jobs started replies table now → started < length jobs → slice_get table slot ≡ Some None → HeldBelow slot table → slice_get jobs started ≡ Some job → new.attempts ≡ now.attempts + 1 → new.events ≡ now.events ++ Started slot job (now.attempts + 1) ∷ [] → new.failures ≡ now.failures → Serving before jobs (started + 1) replies (slice_set table slot (Some started)) new
serve_start before jobs started replies table now new slot job h lt free below is_job att ev fail =
    let number = now.attempts + 1 in
    let e = Started slot job number in
    let number_is : number ≡ before.attempts + started + 1 = omega (arith, h.attempts) in
    record {
      since = h.since ++ e ∷ [];
      events = ev ∙ ap (λ l. l ++ e ∷ []) h.events ∙ append_assoc before.events h.since (e ∷ []);
      attempts = omega (arith, h.attempts, att);
      within = omega arith;
      each = h.each;
      tracks = λ k k_lt. ⊎_elim
          (λ same.
          let n : number ≡ before.attempts + k + 1 = omega (arith, number_is) in
          let unstarted = open_at _ started k replies table (omega arith) (h.tracks k k_lt) in
          let at : slice_get (slice_set table slot (Some started)) slot ≡ Some (Some k) = get-set_same table slot None (Some started) free ∙ ap (λ x. Some (Some x)) (sym same) in
          subst (λ f. Tracks f (started + 1) k replies (slice_set table slot (Some started))) (sym (fate-started _ slot job number h.since n)) (omega arith, unstarted.1, at))
          (λ other.
          let n : number ≡ before.attempts + k + 1 → ⊥ = λ x. other (omega (arith, number_is)) in
          subst (λ f. Tracks f (started + 1) k replies (slice_set table slot (Some started))) (sym (fate-other _ slot job number h.since n)) (track_on _ started k slot replies table other free (h.tracks k k_lt)))
          (cases_eq k started);
      holds = λ s k at. ⊎_elim
          (λ same.
          let here = sym (get-set_same table slot None (Some started) free) ∙ subst (λ x. slice_get (slice_set table slot (Some started)) x ≡ Some (Some k)) same at in
          let k_is : started ≡ k = cc in
          (omega arith, fate-started _ slot job number h.since (omega (arith, number_is)) ∙ ap Running (sym same)))
          (λ other.
          let old = h.holds s k (sym (get-set_other table slot s (Some started) other) ∙ at) in
          let n : number ≡ before.attempts + k + 1 → ⊥ = λ x. let l = old.0 in absurd (omega (arith, number_is)) in
          (omega (arith, old.0), fate-other _ slot job number h.since n ∙ old.1))
          (cases_eq s slot);
      slots = λ s. ⊎_elim
          (λ same.
          ap (busy s) ev ∙ busy-started s slot job number now.events (sym same)
          ∙ sym (ap is_held (ap (slice_get (slice_set table slot (Some started))) same ∙ get-set_same table slot None (Some started) free)))
          (λ other.
          ap (busy s) ev ∙ busy-started_other s slot job number now.events (λ x. other (sym x)) ∙ h.slots s
          ∙ ap is_held (sym (get-set_other table slot s (Some started) other)))
          (cases_eq s slot);
      starts =
          let place : number - (before.attempts + 1) ≡ started = omega (arith, number_is) in
          starts-push jobs before.attempts slot job number h.since h.starts (omega (arith, number_is)) (ap (slice_get jobs) place ∙ is_job);
      least = least-push before.events h.since slot job number h.least (λ s s_lt. ap (busy s) (sym h.events) ∙ h.slots s ∙ ap is_held (below.each s s_lt).1);
      flying = λ n. flying-push n h.since e ∙ omega (arith, h.flying n, held-set_job table slot started free);
      fills = subst (λ n. Fills n (λ m. m ≡ before.attempts + length jobs) 0 (h.since ++ e ∷ [])) (sym (length-set table slot (Some started)))
          (fills-start (length table) (λ m. m ≡ before.attempts + length jobs) 0 slot job number h.since h.fills (omega (arith, h.flying 0, held-free table slot free)));
      failures = fail ∙ h.failures;
      few = omega (arith, h.few, held-set_job table slot started free);
    }

-- Another job, when one more start was refused.
track_refused : (f : Fate) (started k : ℕ) (replies : List (Option Reply)) (table : List (Option ℕ)) → (k ≡ started → ⊥) → Tracks f started k replies table → Tracks f (started + 1) k (slice_set replies started (Some StartRefused)) table
track_refused Unstarted started k replies table ne t =
    (λ lt. get-set_other replies started k (Some StartRefused) ne ∙ t.0 (omega arith), λ le. get-set_other replies started k (Some StartRefused) ne ∙ t.1 (omega arith))
track_refused (Running s) started k replies table ne t = (omega (arith, t.0), get-set_other replies started k (Some StartRefused) ne ∙ t.1, t.2)
track_refused (Replied r) started k replies table ne t = (omega (arith, t.0), get-set_other replies started k (Some StartRefused) ne ∙ t.1)

pub serve_refused : (before : Account) (jobs : List Job) (started : ℕ) (replies : List (Option Reply)) (table : List (Option ℕ)) (now new : Account) → Serving before jobs started replies table now → started < length jobs → new.attempts ≡ now.attempts + 1 → new.events ≡ now.events → new.failures ≡ now.failures + 1 → Serving before jobs (started + 1) (slice_set replies started (Some StartRefused)) table new
serve_refused before jobs started replies table now new h lt att ev fail =
    let more = failed_count-set replies started StartRefused (open_at _ started started replies table (omega arith) (h.tracks started lt)).1 in
    record {
      since = h.since;
      events = ev ∙ h.events;
      attempts = omega (arith, h.attempts, att);
      within = omega arith;
      each = length-set replies started (Some StartRefused) ∙ h.each;
      tracks = λ k k_lt. ⊎_elim
          (λ same.
          let unstarted = open_at _ started k replies table (omega arith) (h.tracks k k_lt) in
          let at : slice_get (slice_set replies started (Some StartRefused)) k ≡ Some (Some StartRefused) =
          ap (slice_get (slice_set replies started (Some StartRefused))) same ∙ get-set_same replies started None (Some StartRefused) (ap (slice_get replies) (sym same) ∙ unstarted.1) in
          subst (λ f. Tracks f (started + 1) k (slice_set replies started (Some StartRefused)) table) (sym unstarted.0) (λ le. at, λ le. absurd (omega arith)))
          (λ other. track_refused _ started k replies table other (h.tracks k k_lt))
          (cases_eq k started);
      holds = λ s k at. let old = h.holds s k at in (omega (arith, old.0), old.1);
      slots = λ s. ap (busy s) ev ∙ h.slots s;
      starts = h.starts;
      least = h.least;
      flying = h.flying;
      fills = h.fills;
      failures = omega (arith, fail, h.failures, more);
      few = omega (arith, h.few, more);
    }

-- Another job, when a child ended.
track_ended : (f : Fate) (started k slot job : ℕ) (reply : Reply) (replies : List (Option Reply)) (table : List (Option ℕ)) → (k ≡ job → ⊥) → slice_get table slot ≡ Some (Some job) → Tracks f started k replies table → Tracks (ended_by slot reply f) started k (slice_set replies job (Some reply)) (slice_set table slot None)
track_ended Unstarted started k slot job reply replies table ne at t =
    (λ lt. get-set_other replies job k (Some reply) ne ∙ t.0 lt, λ le. get-set_other replies job k (Some reply) ne ∙ t.1 le)
track_ended (Running s) started k slot job reply replies table ne at t =
    let other : s ≡ slot → ⊥ = λ e. let h : slice_get table slot ≡ Some (Some k) = subst (λ x. slice_get table x ≡ Some (Some k)) e t.2 in let both : Some (Some k) ≡ Some (Some job) = sym h ∙ at in ne (cc) in
    subst (λ f. Tracks f started k (slice_set replies job (Some reply)) (slice_set table slot None)) (sym (ended-other slot reply (Running s) (λ x e. let same : s ≡ x = cc in λ y. other (same ∙ y))))
    (t.0, get-set_other replies job k (Some reply) ne ∙ t.1, get-set_other table slot s None other ∙ t.2)
track_ended (Replied r) started k slot job reply replies table ne at t = (t.0, get-set_other replies job k (Some reply) ne ∙ t.1)

running_at : (f : Fate) (s started k : ℕ) (replies : List (Option Reply)) (table : List (Option ℕ)) → f ≡ Running s → Tracks f started k replies table → slice_get replies k ≡ Some None
running_at Unstarted s started k replies table e t = cc
running_at (Running x) s started k replies table e t = t.1
running_at (Replied r) s started k replies table e t = cc

-- The job in a slot has no reply yet.
pub awaits : (before : Account) (jobs : List Job) (started : ℕ) (replies : List (Option Reply)) (table : List (Option ℕ)) (now : Account) (slot job : ℕ) → Serving before jobs started replies table now → slice_get table slot ≡ Some (Some job) → slice_get replies job ≡ Some None
awaits before jobs started replies table now slot job h at =
    let held = h.holds slot job at in
    let within = h.within in
    running_at _ slot started job replies table held.1 (h.tracks job (omega (arith, held.0)))

-- The next job has not been started.
pub awaits_start : (before : Account) (jobs : List Job) (started : ℕ) (replies : List (Option Reply)) (table : List (Option ℕ)) (now : Account) → Serving before jobs started replies table now → started < length jobs → slice_get replies started ≡ Some None
awaits_start before jobs started replies table now h lt = (open_at _ started started replies table (omega arith) (h.tracks started lt)).1

pub serve_end : (before : Account) (jobs : List Job) (started : ℕ) (replies : List (Option Reply)) (table : List (Option ℕ)) (now new : Account) (slot job number : ℕ) (reply : Reply) → Serving before jobs started replies table now → slice_get table slot ≡ Some (Some job) → new.attempts ≡ now.attempts → new.events ≡ now.events ++ Ended slot reply number ∷ [] → number ≡ now.attempts → new.failures ≡ now.failures + failure_of reply → MayWait table started jobs → Serving before jobs started (slice_set replies job (Some reply)) (slice_set table slot None) new
serve_end before jobs started replies table now new slot job number reply h at att ev number_is fail may =
    let e = Ended slot reply number in
    let held = h.holds slot job at in
    let free : slice_get (slice_set table slot None) slot ≡ Some None = get-set_same table slot (Some job) None at in
    let gone = held-set_none table slot job at in
    let more = failed_count-set replies job reply (awaits before jobs started replies table now slot job h at) in
    record {
      since = h.since ++ e ∷ [];
      events = ev ∙ ap (λ l. l ++ e ∷ []) h.events ∙ append_assoc before.events h.since (e ∷ []);
      attempts = att ∙ h.attempts;
      within = h.within;
      each = length-set replies job (Some reply) ∙ h.each;
      tracks = λ k k_lt. ⊎_elim
          (λ same.
          let fate : fate_of (before.attempts + k + 1) h.since ≡ Running slot = ap (λ x. fate_of (before.attempts + x + 1) h.since) same ∙ held.1 in
          let here : slice_get (slice_set replies job (Some reply)) k ≡ Some (Some reply) =
          ap (slice_get (slice_set replies job (Some reply))) same ∙ get-set_same replies job None (Some reply) (awaits before jobs started replies table now slot job h at) in
          subst (λ f. Tracks f started k (slice_set replies job (Some reply)) (slice_set table slot None)) (sym (fate-ended _ slot number reply h.since fate)) (omega (arith, held.0), here))
          (λ other. subst (λ f. Tracks f started k (slice_set replies job (Some reply)) (slice_set table slot None)) (sym (fate-push (before.attempts + k + 1) h.since e)) (track_ended _ started k slot job reply replies table other at (h.tracks k k_lt)))
          (cases_eq k job);
      holds = λ s k k_at. ⊎_elim
          (λ same. let none : Some (Some k) ≡ Some None = sym k_at ∙ ap (slice_get (slice_set table slot None)) same ∙ free in cc)
          (λ other.
          let old = h.holds s k (sym (get-set_other table slot s None other) ∙ k_at) in
          (old.0, fate-push _ h.since e ∙ ap (ended_by slot reply) old.1 ∙ ended-other slot reply (Running s) (λ x x_is. let same : s ≡ x = cc in λ y. other (same ∙ y))))
          (cases_eq s slot);
      slots = λ s. ⊎_elim
          (λ same. ap (busy s) ev ∙ busy-ended s slot number reply now.events (sym same) ∙ sym (ap is_held (ap (slice_get (slice_set table slot None)) same ∙ free)))
          (λ other. ap (busy s) ev ∙ busy-ended_other s slot number reply now.events (λ x. other (sym x)) ∙ h.slots s ∙ ap is_held (sym (get-set_other table slot s None other)))
          (cases_eq s slot);
      starts = starts-end jobs before.attempts slot number reply h.since h.starts;
      least = least-end before.events h.since slot number reply h.least;
      flying = λ n. flying-push n h.since e ∙ omega (arith, h.flying n, gone);
      fills = subst (λ n. Fills n (λ m. m ≡ before.attempts + length jobs) 0 (h.since ++ e ∷ [])) (sym (length-set table slot None))
          (fills-end (length table) (λ m. m ≡ before.attempts + length jobs) 0 slot number reply h.since h.fills (omega (arith, h.flying 0, held-most table))
          (⊎_elim (λ all. inr (omega (arith, h.flying 0, held-all table all.each))) (λ every. inl (omega (arith, every, number_is, h.attempts))) may));
      failures = omega (arith, fail, h.failures, more);
      few = omega (arith, h.few, more, gone, failure_most reply);
    }

held_cases : (o : Option (Option ℕ)) → is_held o ≡ true → (k : ℕ) × (o ≡ Some (Some k))
held_cases None e = cc
held_cases (Some None) e = cc
held_cases (Some (Some k)) e = (k, refl)

-- The slot of a child that ended holds a job.
pub held_job : (before : Account) (jobs : List Job) (started : ℕ) (replies : List (Option Reply)) (table : List (Option ℕ)) (now : Account) (slot : ℕ) → Serving before jobs started replies table now → busy slot now.events ≡ true → (k : ℕ) × (slice_get table slot ≡ Some (Some k))
held_job before jobs started replies table now slot h b = held_cases _ (sym (h.slots slot) ∙ b)

-- The job of a child that ended is the one that was read in its slot.
pub held_at : (before : Account) (jobs : List Job) (started : ℕ) (replies : List (Option Reply)) (table : List (Option ℕ)) (now : Account) (slot job : ℕ) → Serving before jobs started replies table now → busy slot now.events ≡ true → get_or table slot None ≡ Some job → slice_get table slot ≡ Some (Some job)
held_at before jobs started replies table now slot job h b read =
    let held = held_job before jobs started replies table now slot h b in
    let same = sym (get_or_from_slice_get table slot (Some held.0) None held.1) ∙ read in
    held.1 ∙ ap Some same

-- The slot of a child that ended is not free.
pub not_none : (before : Account) (jobs : List Job) (started : ℕ) (replies : List (Option Reply)) (table : List (Option ℕ)) (now : Account) (slot : ℕ) → Serving before jobs started replies table now → busy slot now.events ≡ true → get_or table slot None ≡ None → ⊥
not_none before jobs started replies table now slot h b read =
    let held = held_job before jobs started replies table now slot h b in
    let same = sym (get_or_from_slice_get table slot (Some held.0) None held.1) ∙ read in
    cc

-- A job in a slot is in flight.
pub some_busy : (before : Account) (jobs : List Job) (started : ℕ) (replies : List (Option Reply)) (table : List (Option ℕ)) (now : Account) → Serving before jobs started replies table now → HasHeld table → IsSomeBusy now.events
some_busy before jobs started replies table now h held = record { slot = held.slot; is_busy = h.slots held.slot ∙ ap is_held held.at }

-- A reply leaves one job fewer.
pub open_count-set : (rs : List (Option Reply)) (k : ℕ) (r : Reply) → slice_get rs k ≡ Some None → open_count (slice_set rs k (Some r)) + 1 ≡ open_count rs
open_count-set [] k r e = cc
open_count-set (None ∷ rs) zero r e = refl
open_count-set (Some x ∷ rs) zero r e = let same : Some x ≡ None = cc in cc
open_count-set (None ∷ rs) (suc k) r e = omega (arith, open_count-set rs k r e)
open_count-set (Some x ∷ rs) (suc k) r e = open_count-set rs k r e

-- A refusal may be counted at a start, and at an end.
pub room_to_start : (before : Account) (jobs : List Job) (started : ℕ) (replies : List (Option Reply)) (table : List (Option ℕ)) (now : Account) → Serving before jobs started replies table now → started < length jobs → before.failures + length jobs ≤ 2 ^ 62 → now.failures < 2 ^ 62
room_to_start before jobs started replies table now h lt room = omega (arith, h.failures, h.few)

pub room_to_end : (before : Account) (jobs : List Job) (started : ℕ) (replies : List (Option Reply)) (table : List (Option ℕ)) (now : Account) → Serving before jobs started replies table now → HasHeld table → before.failures + length jobs ≤ 2 ^ 62 → now.failures < 2 ^ 62
room_to_end before jobs started replies table now h held room = omega (arith, h.failures, h.few, h.within, held-some table held.slot held.job held.at)

nothing_left : (n : ℕ) (job : Job) (rest : List Job) → drop n [] ≡ job ∷ rest → ⊥
nothing_left zero job rest e = cc
nothing_left (suc n) job rest e = cc

-- The queue has the jobs that were not attempted.
pub next_job : (jobs rest : List Job) (started : ℕ) (job : Job) → drop started jobs ≡ job ∷ rest → (slice_get jobs started ≡ Some job) × (rest ≡ drop (started + 1) jobs)
next_job [] rest started job e = absurd (nothing_left started job rest e)
next_job (x ∷ xs) rest zero job e = let head : x ≡ job = cc in let tail : xs ≡ rest = cc in (ap Some head, sym tail)
next_job (x ∷ xs) rest (suc k) job e = let h = next_job xs rest k job e in let n : suc k + 1 ≡ suc (k + 1) = omega arith in (h.0, h.1 ∙ ap (λ m. drop m (x ∷ xs)) (sym n))

pub all_attempted : (jobs : List Job) (started : ℕ) → drop started jobs ≡ [] → length jobs ≤ started
all_attempted [] started e = omega arith
all_attempted (x ∷ xs) zero e = cc
all_attempted (x ∷ xs) (suc k) e = let h = all_attempted xs k e in omega arith
