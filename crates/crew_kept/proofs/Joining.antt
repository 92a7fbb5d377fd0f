-- The account of a run that takes replies, one event at a time.
use Rattle.std.proofs.Common.{◌≡◌, ℕ, ◌+◌, ◌-◌, ◌≤◌, List, [], ◌∷◌, ◌++◌, length, take, drop, map, refl, sym, ap, ◌∙◌, subst, arith, append_assoc, append-nil, length-drop, add-zero}
use Rattle.std.proofs.lemmas.List.{map-append, take-append-le, drop-append-le, take_all, drop_all}
use Rattle.crew_trait.specs.declared.event.CrewEvent.{CrewEvent}
use Rattle.crew_trait.specs.declared.event.CrewEvent.TheVariants.{Started, Ended}
use Rattle.crew_kept.specs.declared.placed.Placed.{Placed}
use Rattle.crew_kept.specs.Taking.{events_in, starts_in, raised, joined, own_starts, own_refusals, refusals_in, ArePlaced}

pub placed_last : (at end : ℕ) (ps : List Placed) → ArePlaced at end ps → at ≤ end
placed_last at end [] h = h
placed_last at end (p ∷ ps) h = let later = placed_last p.place end ps h.1 in omega (arith, h.0, later)

-- An event of the crew inside comes at the end.
pub joined_inner : (at more : ℕ) (ps : List Placed) (es : List CrewEvent) (x : CrewEvent) → ArePlaced at (at + length es) ps
    → joined at more ps (es ++ x ∷ []) ≡ joined at more ps es ++ raised (more + own_starts ps) x ∷ []
joined_inner at more [] es x within = map-append (raised more) es (x ∷ []) ∙ ap (λ n. map (raised more) es ++ raised n x ∷ []) (sym (add-zero more))
joined_inner at more (p ∷ ps) es x within =
    let k : ℕ = p.place - at in
    let last : p.place ≤ at + length es = placed_last p.place (at + length es) ps within.1 in
    let low : at ≤ p.place = within.0 in
    let fits : k ≤ length es = omega arith in
    let front : take k (es ++ x ∷ []) ≡ take k es = take-append-le k es (x ∷ []) fits in
    let back : drop k (es ++ x ∷ []) ≡ drop k es ++ x ∷ [] = drop-append-le k es (x ∷ []) fits in
    let long : p.place + length (drop k es) ≡ at + length es = omega (arith, length-drop k es) in
    let rest = joined_inner p.place (more + starts_in p.step) ps (drop k es) x (subst (λ n. ArePlaced p.place n ps) (sym long) within.1) in
    let number : (more + starts_in p.step) + own_starts ps ≡ more + (starts_in p.step + own_starts ps) = omega arith in
    let own : List CrewEvent = events_in p.step in
    let later : List CrewEvent = joined p.place (more + starts_in p.step) ps (drop k es) in
    ap (λ f. map (raised more) f ++ (own ++ joined p.place (more + starts_in p.step) ps (drop k (es ++ x ∷ [])))) front
    ∙ ap (λ b. map (raised more) (take k es) ++ (own ++ joined p.place (more + starts_in p.step) ps b)) back
    ∙ ap (λ r. map (raised more) (take k es) ++ (own ++ r)) (rest ∙ ap (λ n. later ++ raised n x ∷ []) number)
    ∙ ap (λ r. map (raised more) (take k es) ++ r) (sym (append_assoc own later (raised (more + own_starts (p ∷ ps)) x ∷ [])))
    ∙ sym (append_assoc (map (raised more) (take k es)) (own ++ later) (raised (more + own_starts (p ∷ ps)) x ∷ []))

-- A step of one's own comes at the end.
pub joined_own : (at more : ℕ) (ps : List Placed) (es : List CrewEvent) (p : Placed) → ArePlaced at (at + length es) ps → p.place ≡ at + length es
    → joined at more (ps ++ p ∷ []) es ≡ joined at more ps es ++ events_in p.step
joined_own at more [] es p within place =
    let k : ℕ = p.place - at in
    let own : List CrewEvent = events_in p.step in
    let whole : length es ≤ k = omega (arith, place) in
    ap (λ f. map (raised more) f ++ (own ++ map (raised (more + starts_in p.step)) (drop k es))) (take_all k es whole)
    ∙ ap (λ b. map (raised more) es ++ (own ++ map (raised (more + starts_in p.step)) b)) (drop_all k es whole)
    ∙ ap (λ l. map (raised more) es ++ l) (append-nil own)
joined_own at more (q ∷ qs) es p within place =
    let k : ℕ = q.place - at in
    let own : List CrewEvent = events_in q.step in
    let later : List CrewEvent = joined q.place (more + starts_in q.step) qs (drop k es) in
    let last : q.place ≤ at + length es = placed_last q.place (at + length es) qs within.1 in
    let low : at ≤ q.place = within.0 in
    let long : q.place + length (drop k es) ≡ at + length es = omega (arith, length-drop k es) in
    let rest = joined_own q.place (more + starts_in q.step) qs (drop k es) p (subst (λ n. ArePlaced q.place n qs) (sym long) within.1) (place ∙ sym long) in
    ap (λ r. map (raised more) (take k es) ++ (own ++ r)) rest
    ∙ ap (λ r. map (raised more) (take k es) ++ r) (sym (append_assoc own later (events_in p.step)))
    ∙ sym (append_assoc (map (raised more) (take k es)) (own ++ later) (events_in p.step))

-- Without replies that were taken, the events are those of the crew inside.
raised_nothing : (x : CrewEvent) → raised 0 x ≡ x
raised_nothing (Started slot job number) = ap (Started slot job) (add-zero number)
raised_nothing (Ended slot reply number) = ap (Ended slot reply) (add-zero number)

pub joined_nothing : (es : List CrewEvent) → joined 0 0 [] es ≡ es
joined_nothing [] = refl
joined_nothing (e ∷ es) = ap (λ x. x ∷ map (raised 0) es) (raised_nothing e) ∙ ap (λ l. e ∷ l) (joined_nothing es)

pub starts_push : (ps : List Placed) (p : Placed) → own_starts (ps ++ p ∷ []) ≡ own_starts ps + starts_in p.step
starts_push [] p = omega arith
starts_push (q ∷ qs) p = let rest = starts_push qs p in omega (arith, rest)

pub refusals_push : (ps : List Placed) (p : Placed) → own_refusals (ps ++ p ∷ []) ≡ own_refusals ps + refusals_in p.step
refusals_push [] p = omega arith
refusals_push (q ∷ qs) p = let rest = refusals_push qs p in omega (arith, rest)

pub placed_more : (at end later : ℕ) (ps : List Placed) → ArePlaced at end ps → end ≤ later → ArePlaced at later ps
placed_more at end later [] h le = omega (arith, h, le)
placed_more at end later (p ∷ ps) h le = (h.0, placed_more p.place end later ps h.1 le)

pub placed_push : (at end : ℕ) (ps : List Placed) (p : Placed) → ArePlaced at end ps → p.place ≡ end → ArePlaced at end (ps ++ p ∷ [])
placed_push at end [] p h is = (omega (arith, h, is), omega (arith, is))
placed_push at end (q ∷ qs) p h is = (h.0, placed_push q.place end qs p h.1 is)
