-- Each call keeps a crew in memory ready for the next.
use Rattle.std.proofs.Common.{◌≡◌, ◌≢◌, ℕ, zero, suc, ◌+◌, ◌*◌, ◌<◌, ◌≤◌, true, false, List, [], ◌∷◌, ◌++◌, length, map, get_or, refl, sym, ap, ◌∙◌, subst, arith, length-append}
use Rattle.std.specs.Prelude.{remove}
use Rattle.std.proofs.lemmas.List.{map-append, length-map, get_or-map}
use Rattle.std.proofs.lemmas.List.Edits.{length-remove}
use Rattle.crew_jobs.specs.declared.job.Job.{Job}
use Rattle.crew_trait.specs.declared.reply.Reply.{Reply}
use Rattle.crew_trait.specs.declared.reply.Reply.TheVariants.{StartRefused}
use Rattle.crew_trait.specs.declared.event.CrewEvent.{CrewEvent}
use Rattle.crew_trait.specs.declared.event.CrewEvent.TheVariants.{Started, Ended}
use Rattle.crew.specs.declared.event.Event.{Event}
use Rattle.crew.specs.Child.{Child}
use Rattle.crew_trait.specs.Events.{busy, IsSomeBusy}
use Rattle.crew.specs.Sound.{AllStarted, IsReady}
use Rattle.crew.proofs.SlotLemmas.{lists_none, lists_busy, lists_some, lists_start, lists_end}

-- a child of a list that was lent as a slice
pub in_lent : {lent cs : List Child} {i : ℕ} → lent ≡ cs → i < length lent → i < length cs
in_lent same lt = omega (arith, lt, ap length same)

abbrev slots : List Child → List ℕ
slots cs = map (λ c. c.slot) cs

started-push : (cs : List Child) (c : Child) → AllStarted cs → c.reply ≢ StartRefused → AllStarted (cs ++ c ∷ [])
started-push [] c h ne = (ne, tt)
started-push (x ∷ cs) c h ne = (h.0, started-push cs c h.1 ne)

started-remove : (cs : List Child) (i : ℕ) → AllStarted cs → AllStarted (remove cs i)
started-remove [] zero h = tt
started-remove [] (suc i) h = tt
started-remove (x ∷ cs) zero h = h.1
started-remove (x ∷ cs) (suc i) h = (h.0, started-remove cs i h.1)

pub started_at : (cs : List Child) (i : ℕ) (c : Child) → AllStarted cs → i < length cs → c ≡ get_or cs i c → c.reply ≢ StartRefused
started_at [] i c h lt is = absurd (omega arith)
started_at (x ∷ cs) zero c h lt is = λ e. h.0 (sym (ap (λ k. k.reply) is) ∙ e)
started_at (x ∷ cs) (suc i) c h lt is = started_at cs i c h.1 (omega arith) is

slots-remove : (cs : List Child) (i : ℕ) → slots (remove cs i) ≡ remove (slots cs) i
slots-remove [] zero = refl
slots-remove [] (suc i) = refl
slots-remove (x ∷ cs) zero = refl
slots-remove (x ∷ cs) (suc i) = ap (λ xs. x.slot ∷ xs) (slots-remove cs i)

slot_at : (cs : List Child) (i : ℕ) (c : Child) → i < length cs → c ≡ get_or cs i c → c.slot ≡ get_or (slots cs) i c.slot
slot_at cs i c lt is = ap (λ k. k.slot) is ∙ sym (get_or-map (λ (k : Child). k.slot) cs i c c.slot lt)

inside : (cs : List Child) (i : ℕ) → i < length cs → i < length (slots cs)
inside cs i lt = omega (arith, length-map cs (λ (c : Child). c.slot))

pub ready_some : {rs : List Reply} {cs : List Child} {es : List CrewEvent} {ls : List Event} {a b d : ℕ} → IsReady rs cs es ls a b d → IsSomeBusy es → 0 < length cs
ready_some {cs = cs} {es = es} h some = omega (arith, length-map cs (λ (c : Child). c.slot), lists_some (slots cs) es h.busy_slots some)

pub ready_busy : {rs : List Reply} {cs : List Child} {es : List CrewEvent} {ls : List Event} {a b d : ℕ} → IsReady rs cs es ls a b d → (i : ℕ) (c : Child) → i < length cs → c ≡ get_or cs i c → busy c.slot es ≡ true
ready_busy {cs = cs} {es = es} h i c lt is = lists_busy (slots cs) es i c.slot h.busy_slots (inside cs i lt) (slot_at cs i c lt is)

pub ready_new : (rs : List Reply) (cs : List Child) (es : List CrewEvent) (ls : List Event) (a b d : ℕ) → cs ≡ [] → es ≡ [] → ls ≡ [] → length rs ≤ a → 2 * length rs ≤ b → 2 * length rs ≤ d → IsReady rs cs es ls a b d
ready_new rs cs es ls a b d cs_is es_is ls_is fa fb fd =
    let n = ap length cs_is in
    let m = ap length es_is in
    let k = ap length ls_is in
    record {
      busy_slots = lists_none (slots cs) es (ap slots cs_is) es_is;
      started = subst AllStarted (sym cs_is) tt;
      children_fit = omega arith;
      events_fit = omega arith;
      listed_fit = omega arith;
      all_listed = omega arith;
    }

-- a refused start, listed or not
pub ready_refused : {rs : List Reply} {cs : List Child} {es : List CrewEvent} {ls : List Event} {a b d : ℕ} → IsReady rs cs es ls a b d → (rs' : List Reply) (ls' : List Event) (d' : ℕ) → length rs' ≤ length rs → length ls' + 2 * length rs' ≤ length ls + 2 * length rs → length ls ≤ length ls' → d ≤ d' → IsReady rs' cs es ls' a b d'
ready_refused h rs' ls' d' fewer fits more grown =
    record {
      busy_slots = h.busy_slots;
      started = h.started;
      children_fit = omega (arith, h.children_fit);
      events_fit = omega (arith, h.events_fit);
      listed_fit = omega (arith, h.listed_fit);
      all_listed = omega (arith, h.all_listed);
    }

pub ready_start : {rs : List Reply} {cs : List Child} {es : List CrewEvent} {ls : List Event} {a b d : ℕ} → IsReady rs cs es ls a b d → (rs' : List Reply) (cs' : List Child) (es' : List CrewEvent) (ls' : List Event) (a' b' d' : ℕ) (c : Child) (e : Event) (job : Job) (number : ℕ) → busy c.slot es ≡ false → c.reply ≢ StartRefused → length rs ≡ length rs' + 1 → cs' ≡ cs ++ c ∷ [] → es' ≡ es ++ Started c.slot job number ∷ [] → ls' ≡ ls ++ e ∷ [] → a ≤ a' → b ≤ b' → d ≤ d' → IsReady rs' cs' es' ls' a' b' d'
ready_start {cs = cs} {es = es} {ls = ls} h rs' cs' es' ls' a' b' d' c e job number free ne fewer cs_is es_is ls_is ga gb gd =
    let n = ap length cs_is ∙ length-append cs (c ∷ []) in
    let m = ap length es_is ∙ length-append es (Started c.slot job number ∷ []) in
    let k = ap length ls_is ∙ length-append ls (e ∷ []) in
    record {
      busy_slots = lists_start (slots cs) (slots cs') es es' c.slot job number h.busy_slots free (ap slots cs_is ∙ map-append (λ x. x.slot) cs (c ∷ [])) es_is;
      started = subst AllStarted (sym cs_is) (started-push cs c h.started ne);
      children_fit = omega (arith, h.children_fit, n);
      events_fit = omega (arith, h.events_fit, n, m);
      listed_fit = omega (arith, h.listed_fit, n, k);
      all_listed = omega (arith, h.all_listed, m, k);
    }

pub ready_next : {rs : List Reply} {cs : List Child} {es : List CrewEvent} {ls : List Event} {a b d : ℕ} → IsReady rs cs es ls a b d → (cs' : List Child) (es' : List CrewEvent) (ls' : List Event) (a' b' d' i : ℕ) (c : Child) (e : Event) (number : ℕ) → i < length cs → c ≡ get_or cs i c → cs' ≡ remove cs i → es' ≡ es ++ Ended c.slot c.reply number ∷ [] → ls' ≡ ls ++ e ∷ [] → a ≤ a' → b ≤ b' → d ≤ d' → IsReady rs cs' es' ls' a' b' d'
ready_next {cs = cs} {es = es} {ls = ls} h cs' es' ls' a' b' d' i c e number lt is cs_is es_is ls_is ga gb gd =
    let n = ap length cs_is in
    let less = length-remove cs i lt in
    let m = ap length es_is ∙ length-append es (Ended c.slot c.reply number ∷ []) in
    let k = ap length ls_is ∙ length-append ls (e ∷ []) in
    record {
      busy_slots = lists_end (slots cs) (slots cs') es es' i c.slot c.reply number h.busy_slots (inside cs i lt) (slot_at cs i c lt is) (ap slots cs_is ∙ slots-remove cs i) es_is;
      started = subst AllStarted (sym cs_is) (started-remove cs i h.started);
      children_fit = omega (arith, h.children_fit, n, less);
      events_fit = omega (arith, h.events_fit, n, m, less);
      listed_fit = omega (arith, h.listed_fit, n, k, less);
      all_listed = omega (arith, h.all_listed, m, k);
    }
