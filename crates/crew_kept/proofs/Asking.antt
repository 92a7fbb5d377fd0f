-- The events of the crew inside, with their numbers in the run.
use Rattle.std.proofs.Common.{◌≡◌, ℕ, ◌+◌, ◌-◌, ◌≤◌, List, [], ◌∷◌, ◌++◌, length, take, drop, map, sym, ap, ◌∙◌, subst, arith, append_assoc, append-nil, length-drop, add-zero}
use Rattle.std.proofs.lemmas.List.{map-append, take-append-le, drop-append-le, take_all, drop_all}
use Rattle.crew_jobs.specs.declared.job.Job.{Job}
use Rattle.crew_trait.specs.Events.{Account}
use Rattle.crew_trait.specs.declared.reply.Reply.{Reply}
use Rattle.crew_trait.specs.declared.event.CrewEvent.{CrewEvent}
use Rattle.crew_trait.specs.declared.event.CrewEvent.TheVariants.{Started, Ended}
use Rattle.crew_kept.specs.declared.placed.Placed.{Placed}
use Rattle.crew_kept.specs.declared.placed.Step.{Step}
use Rattle.crew_kept.specs.Taking.{ArePlaced, asked_in, own_starts, raised, starts_in}
use Rattle.crew_kept.proofs.Joining.{placed_last}

-- An event of the crew inside comes at the end.
asked_inner : (at more : ℕ) (ps : List Placed) (es : List CrewEvent) (x : CrewEvent) → ArePlaced at (at + length es) ps
    → asked_in at more ps (es ++ x ∷ []) ≡ asked_in at more ps es ++ raised (more + own_starts ps) x ∷ []
asked_inner at more [] es x within = map-append (raised more) es (x ∷ []) ∙ ap (λ n. map (raised more) es ++ raised n x ∷ []) (sym (add-zero more))
asked_inner at more (p ∷ ps) es x within =
    let k : ℕ = p.place - at in
    let last : p.place ≤ at + length es = placed_last p.place (at + length es) ps within.1 in
    let low : at ≤ p.place = within.0 in
    let fits : k ≤ length es = omega arith in
    let front : take k (es ++ x ∷ []) ≡ take k es = take-append-le k es (x ∷ []) fits in
    let back : drop k (es ++ x ∷ []) ≡ drop k es ++ x ∷ [] = drop-append-le k es (x ∷ []) fits in
    let long : p.place + length (drop k es) ≡ at + length es = omega (arith, length-drop k es) in
    let rest = asked_inner p.place (more + starts_in p.step) ps (drop k es) x (subst (λ n. ArePlaced p.place n ps) (sym long) within.1) in
    let number : (more + starts_in p.step) + own_starts ps ≡ more + (starts_in p.step + own_starts ps) = omega arith in
    let later : List CrewEvent = asked_in p.place (more + starts_in p.step) ps (drop k es) in
    ap (λ f. map (raised more) f ++ asked_in p.place (more + starts_in p.step) ps (drop k (es ++ x ∷ []))) front
    ∙ ap (λ b. map (raised more) (take k es) ++ asked_in p.place (more + starts_in p.step) ps b) back
    ∙ ap (λ r. map (raised more) (take k es) ++ r) (rest ∙ ap (λ n. later ++ raised n x ∷ []) number)
    ∙ sym (append_assoc (map (raised more) (take k es)) later (raised (more + own_starts (p ∷ ps)) x ∷ []))

-- A step of one's own adds none.
asked_own : (at more : ℕ) (ps : List Placed) (es : List CrewEvent) (p : Placed) → ArePlaced at (at + length es) ps → p.place ≡ at + length es
    → asked_in at more (ps ++ p ∷ []) es ≡ asked_in at more ps es
asked_own at more [] es p within place =
    let k : ℕ = p.place - at in
    let whole : length es ≤ k = omega (arith, place) in
    ap (λ f. map (raised more) f ++ map (raised (more + starts_in p.step)) (drop k es)) (take_all k es whole)
    ∙ ap (λ b. map (raised more) es ++ map (raised (more + starts_in p.step)) b) (drop_all k es whole)
    ∙ append-nil (map (raised more) es)
asked_own at more (q ∷ qs) es p within place =
    let k : ℕ = q.place - at in
    let last : q.place ≤ at + length es = placed_last q.place (at + length es) qs within.1 in
    let low : at ≤ q.place = within.0 in
    let long : q.place + length (drop k es) ≡ at + length es = omega (arith, length-drop k es) in
    ap (λ r. map (raised more) (take k es) ++ r)
    (asked_own q.place (more + starts_in q.step) qs (drop k es) p (subst (λ n. ArePlaced q.place n qs) (sym long) within.1) (place ∙ sym long))

zero_add : (n : ℕ) → 0 + n ≡ n
zero_add n = omega arith

whole_place : (n : ℕ) (ps : List Placed) → ArePlaced 0 n ps → ArePlaced 0 (0 + n) ps
whole_place n ps h = subst (λ k. ArePlaced 0 k ps) (sym (zero_add n)) h

-- After a start of the crew inside, after an end of it, and after a step of one's own.
pub asked_started : (a b : Account) (placed later : List Placed) (slot number : ℕ) (job : Job) → ArePlaced 0 (length a.events) placed → later ≡ placed
    → b.events ≡ a.events ++ Started slot job (a.attempts + 1) ∷ [] → number ≡ (a.attempts + 1) + own_starts placed
    → asked_in 0 0 later b.events ≡ asked_in 0 0 placed a.events ++ Started slot job number ∷ []
asked_started a b placed later slot number job within later_is is number_is =
    let raised_is : (a.attempts + 1) + (0 + own_starts placed) ≡ number = omega (arith, number_is) in
    ap (λ p. asked_in 0 0 p b.events) later_is ∙ ap (asked_in 0 0 placed) is
    ∙ asked_inner 0 0 placed a.events (Started slot job (a.attempts + 1)) (whole_place (length a.events) placed within)
    ∙ ap (λ n. asked_in 0 0 placed a.events ++ Started slot job n ∷ []) raised_is

pub asked_ended : (a b : Account) (placed later : List Placed) (slot : ℕ) (reply : Reply) → ArePlaced 0 (length a.events) placed → later ≡ placed
    → b.events ≡ a.events ++ Ended slot reply a.attempts ∷ []
    → asked_in 0 0 later b.events ≡ asked_in 0 0 placed a.events ++ Ended slot reply (a.attempts + own_starts placed) ∷ []
asked_ended a b placed later slot reply within later_is is =
    let raised_is : a.attempts + (0 + own_starts placed) ≡ a.attempts + own_starts placed = omega arith in
    ap (λ p. asked_in 0 0 p b.events) later_is ∙ ap (asked_in 0 0 placed) is
    ∙ asked_inner 0 0 placed a.events (Ended slot reply a.attempts) (whole_place (length a.events) placed within)
    ∙ ap (λ n. asked_in 0 0 placed a.events ++ Ended slot reply n ∷ []) raised_is

pub asked_same : (a b : Account) (placed later : List Placed) → later ≡ placed → b.events ≡ a.events → asked_in 0 0 later b.events ≡ asked_in 0 0 placed a.events
asked_same a b placed later later_is is = ap (λ p. asked_in 0 0 p b.events) later_is ∙ ap (asked_in 0 0 placed) is

pub asked_placed : (events : List CrewEvent) (placed mid later : List Placed) (place : ℕ) (step : Step) → ArePlaced 0 (length events) placed → place ≡ length events → mid ≡ placed
    → later ≡ mid ++ record { place = place; step = step } ∷ [] → asked_in 0 0 later events ≡ asked_in 0 0 placed events
asked_placed events placed mid later place step within place_is mid_is later_is =
    ap (λ p. asked_in 0 0 p events) (later_is ∙ ap (λ p. p ++ record { place = place; step = step } ∷ []) mid_is)
    ∙ asked_own 0 0 placed events (record { place = place; step = step }) (whole_place (length events) placed within) (place_is ∙ sym (zero_add (length events)))
