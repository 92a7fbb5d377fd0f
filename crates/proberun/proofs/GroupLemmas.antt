-- A group begins and ends.
use Rattle.std.proofs.Common.{◌≡◌, ℕ, zero, suc, ◌+◌, ◌<◌, ◌≤◌, false, List, [], ◌∷◌, length, map, Option, Some, None, refl, sym, ap, ◌∙◌, ⊎_elim, arith, replicate}
use Rattle.std.specs.Prelude.{slice_get}
use Rattle.std.proofs.Math.ListN.{length-replicate}
use Rattle.std.proofs.lemmas.List.{append-nil}
use Rattle.std.proofs.lemmas.Option.{slice_get_within}
use Rattle.std.proofs.lemmas.Bool.{cases_lt}
use Rattle.crew_jobs.specs.declared.job.Job.{Job}
use Rattle.crew_trait.specs.declared.reply.Reply.{Reply}
use Rattle.crew_trait.specs.declared.event.CrewEvent.{CrewEvent}
use Rattle.crew_trait.specs.Events.{Account, Fate, Unstarted, Running, Replied, fate_of, IsIdle, reply_in, replies_in}
use Rattle.proberun.specs.Serving.{Serving, Served, AllHeld, AllFree, Tracks, is_held, failed_count}
use Rattle.proberun.proofs.TableLemmas.{get-replicate, get-past, held-none}

free_slot_is : (table : List (Option ℕ)) (s : ℕ) → AllFree table → is_held (slice_get table s) ≡ false
free_slot_is table s free = ⊎_elim (λ lt. ap is_held (free.each s lt)) (λ le. ap is_held (get-past table s le)) (cases_lt s (length table))

not_held : (table : List (Option ℕ)) (s k : ℕ) → AllFree table → slice_get table s ≡ Some (Some k) → ⊥
not_held table s k free at = let none : Some (Some k) ≡ Some None = sym at ∙ free.each s (slice_get_within table s (Some k) at) in cc

failed-fresh : (n : ℕ) → failed_count (replicate n None) ≡ 0
failed-fresh zero = refl
failed-fresh (suc n) = failed-fresh n

pub serving_begins : (now : Account) (jobs : List Job) (replies : List (Option Reply)) (table : List (Option ℕ)) → replies ≡ replicate (length jobs) None → IsIdle now.events → AllFree table → Serving now jobs 0 replies table now
serving_begins now jobs replies table fresh idle free =
    let nothing : failed_count replies ≡ 0 = ap failed_count fresh ∙ failed-fresh (length jobs) in
    record {
      since = [];
      events = sym (append-nil now.events);
      attempts = omega arith;
      within = omega arith;
      each = ap length fresh ∙ length-replicate (length jobs) None;
      tracks = λ k lt. (λ never. absurd (omega arith), λ le. ap (λ l. slice_get l k) fresh ∙ get-replicate (length jobs) k None lt);
      holds = λ s k at. absurd (not_held table s k free at);
      slots = λ s. idle.free s ∙ sym (free_slot_is table s free);
      starts = tt;
      least = tt;
      flying = λ n. omega (arith, held-none table free.each);
      fills = tt;
      failures = omega (arith, nothing);
      few = omega (arith, nothing, held-none table free.each);
    }

all_replied : (n base : ℕ) (es : List CrewEvent) (replies : List (Option Reply)) → length replies ≡ n → ((k : ℕ) → k < n → slice_get replies k ≡ Some (Some (reply_in (fate_of (base + k + 1) es)))) → replies ≡ map Some (replies_in base n es)
all_replied zero base es [] len each = refl
all_replied zero base es (r ∷ rs) len each = absurd (omega arith)
all_replied (suc n) base es [] len each = absurd (omega arith)
all_replied (suc n) base es (r ∷ rs) len each =
    let z : base + 0 + 1 ≡ base + 1 = omega arith in
    let first : Some r ≡ Some (Some (reply_in (fate_of (base + 1) es))) = each 0 (omega arith) ∙ ap (λ m. Some (Some (reply_in (fate_of m es)))) z in
    let head : r ≡ Some (reply_in (fate_of (base + 1) es)) = cc in
    let rest = all_replied n (base + 1) es rs (omega arith) (λ k lt. let m : base + suc k + 1 ≡ base + 1 + k + 1 = omega arith in each (suc k) (omega arith) ∙ ap (λ x. Some (Some (reply_in (fate_of x es)))) m) in
    ap (λ x. x ∷ rs) head ∙ ap (λ l. Some (reply_in (fate_of (base + 1) es)) ∷ l) rest

reply_at : (f : Fate) (started k : ℕ) (replies : List (Option Reply)) (table : List (Option ℕ)) → k < started → AllFree table → Tracks f started k replies table → slice_get replies k ≡ Some (Some (reply_in f))
reply_at Unstarted started k replies table lt free t = t.0 lt
reply_at (Running s) started k replies table lt free t = absurd (not_held table s k free t.2)
reply_at (Replied r) started k replies table lt free t = t.1

pub serving_ends : (before : Account) (jobs : List Job) (started : ℕ) (replies : List (Option Reply)) (table : List (Option ℕ)) (now : Account) → Serving before jobs started replies table now → AllFree table → 0 < length table → (started < length jobs → AllHeld table) → Served (length table) before jobs replies now
serving_ends before jobs started replies table now h free some held =
    let all : length jobs ≤ started = ⊎_elim (λ lt. let at = (held lt).each 0 some in absurd (not_held table 0 at.0 free at.1)) (λ le. le) (cases_lt started (length jobs)) in
    let within = h.within in
    let whole : started ≡ length jobs = omega arith in
    record {
      since = h.since;
      events = h.events;
      attempts = h.attempts ∙ ap (λ n. before.attempts + n) whole;
      replied = all_replied (length jobs) before.attempts h.since replies h.each (λ k lt. reply_at _ started k replies table (omega arith) free (h.tracks k lt));
      starts = h.starts;
      idle = record { free = λ s. h.slots s ∙ free_slot_is table s free };
      least = h.least;
      landed = λ n. h.flying n ∙ omega (arith, held-none table free.each);
      fills = h.fills;
      failures = h.failures;
      few = omega (arith, h.few);
    }
