use Rattle.std.proofs.Common.{◌+◌, ◌≤◌, arith, cond, length, refl, vec_capacity, [], ◌∷◌, ◌++◌, sym, ap, ◌∙◌}
use Rattle.crew_trait.specs.Events.{busy, failure_of}
use Rattle.crew_trait.specs.declared.event.CrewEvent.TheVariants.{Ended}
use Rattle.crew_kept.specs.declared.placed.Step.TheVariants.{Happened}
use Rattle.crew_kept.proofs.Asking.{asked_ended, asked_placed}
use Rattle.crew_kept.specs.Taking.{asked_with, joined, own_refusals, own_starts}
use Rattle.crew_kept.proofs.Keeping.{kept_returned, kept_ended_on, ended_events_on, returned_busy, returned_count, returned_events, returned_number, returned_reply}
use Rattle.crew_kept.proofs.kept.Kept.end.Goals as goal

pub invariant_of-self : goal.invariant_of-self
invariant_of-self g c =
    let fits : length c.put_end.new.placed.items + length c.put_end.new.waiting.items + cond c.self.inside.linked 1 0 ≤ vec_capacity c.put_end.new.placed =
    omega (arith, c.self.invariant.1, c.put_end.ensures.count, c.put_end.ensures.grown) in
    (kept_returned (g.C.Crew.account c.self.inside.crew) c.self.inside.supply.records c.self.inside.placed.items c.put_end.new.placed.items c.self.inside.waiting.items c.put_end.new.waiting.items c.self.inside.linked c.self.inside.supply.state c.self.inside.events c.self.inside.attempts c.in-Some.end.0 c.in-Some.end.1 c.self.invariant.0 c.in-Some.ensures.waiting c.in-Some.ensures.placed, fits)

pub invariant_of-self-in-None : goal.invariant_of-self-in-None
invariant_of-self-in-None g c =
    let fits : length c.put_end.new.placed.items + length c.put_end.new.waiting.items + cond c.self.inside.linked 1 0 ≤ vec_capacity c.put_end.new.placed =
    omega (arith, c.self.invariant.1, c.put_end.ensures.count, c.put_end.ensures.grown) in (
      kept_ended_on (g.C.Crew.account c.self.inside.crew) (g.C.Crew.account c.next-end.new.self) c.self.inside.supply.records c.self.inside.placed.items c.put_end.new.placed.items c.self.inside.waiting.items c.put_end.new.waiting.items c.self.inside.linked c.self.inside.supply.state c.self.inside.events c.self.inside.attempts c.next-end.result.0 c.next-end.result.1 c.self.invariant.0
          c.in-None.ensures.none c.in-None.ensures.left c.in-None.ensures.kept c.next-end.ensures.was_busy c.next-end.ensures.ended c.next-end.ensures.number,
      fits,
    )

pub returns-in-Some-clause-was_busy : goal.returns-in-Some-clause-was_busy
returns-in-Some-clause-was_busy g c =
    sym (ap (λ k. busy c.in-Some.end.0 (joined 0 0 k.placed (g.C.Crew.account k.crew).events)) c.self.view_is)
    ∙ returned_busy (g.C.Crew.account c.self.inside.crew) c.self.inside.supply.records c.self.inside.placed.items c.self.inside.waiting.items c.put_end.new.waiting.items c.self.inside.linked c.self.inside.supply.state c.self.inside.events c.self.inside.attempts c.in-Some.end.0 c.in-Some.end.1 c.self.invariant.0 c.in-Some.ensures.waiting

pub returns-in-Some-clause-ended : goal.returns-in-Some-clause-ended
returns-in-Some-clause-ended g c =
    returned_events (g.C.Crew.account c.self.inside.crew) c.self.inside.supply.records c.self.inside.placed.items c.put_end.new.placed.items c.self.inside.waiting.items c.put_end.new.waiting.items c.self.inside.linked c.self.inside.supply.state c.self.inside.events c.self.inside.attempts c.in-Some.end.0 c.in-Some.end.1 c.self.invariant.0 c.in-Some.ensures.placed
    ∙ ap (λ k. joined 0 0 k.placed (g.C.Crew.account k.crew).events ++ Ended c.in-Some.end.0 c.in-Some.end.1 ((g.C.Crew.account k.crew).attempts + own_starts k.placed) ∷ []) c.self.view_is

pub returns-in-Some-clause-number : goal.returns-in-Some-clause-number
returns-in-Some-clause-number g c =
    returned_number (g.C.Crew.account c.self.inside.crew).attempts c.self.inside.events c.in-Some.end.0 c.self.inside.attempts c.self.inside.placed.items c.put_end.new.placed.items c.in-Some.end.1 c.in-Some.ensures.placed
    ∙ ap (λ k. (g.C.Crew.account k.crew).attempts + own_starts k.placed) c.self.view_is

pub returns-in-Some-clause-reply : goal.returns-in-Some-clause-reply
returns-in-Some-clause-reply g c = returned_reply (g.C.Crew.account c.self.inside.crew) c.self.inside.supply.records c.self.inside.placed.items c.self.inside.waiting.items c.put_end.new.waiting.items c.self.inside.linked c.self.inside.supply.state c.self.inside.events c.self.inside.attempts c.in-Some.end.0 c.in-Some.end.1 c.self.invariant.0 c.in-Some.ensures.waiting

pub returns-in-Some-clause-count : goal.returns-in-Some-clause-count
returns-in-Some-clause-count g c =
    returned_count (g.C.Crew.account c.self.inside.crew) c.self.inside.supply.records c.self.inside.placed.items c.put_end.new.placed.items c.self.inside.waiting.items c.put_end.new.waiting.items c.self.inside.linked c.self.inside.supply.state c.self.inside.events c.self.inside.attempts c.in-Some.end.0 c.in-Some.end.1 c.self.invariant.0 c.in-Some.ensures.waiting c.in-Some.ensures.placed
    ∙ ap (λ k. ((g.C.Crew.account k.crew).failures + own_refusals k.placed) + failure_of c.in-Some.end.1) c.self.view_is

pub returns-in-None-clause-ended : goal.returns-in-None-clause-ended
returns-in-None-clause-ended g c =
    ended_events_on (g.C.Crew.account c.self.inside.crew) (g.C.Crew.account c.next-end.new.self) c.self.inside.placed.items c.put_end.new.placed.items c.next-end.result.0 c.next-end.result.1 c.self.invariant.0.in_place c.in-None.ensures.kept c.next-end.ensures.ended
    ∙ ap (λ k. joined 0 0 k.placed (g.C.Crew.account k.crew).events ++ Ended c.next-end.result.0 c.next-end.result.1 ((g.C.Crew.account k.crew).attempts + own_starts k.placed) ∷ []) c.self.view_is

pub returns-in-Some-clause-unasked : goal.returns-in-Some-clause-unasked
returns-in-Some-clause-unasked g c = λ _.
    asked_placed (g.C.Crew.account c.self.inside.crew).events c.self.inside.placed.items c.self.inside.placed.items c.put_end.new.placed.items c.self.inside.events (Happened (Ended c.in-Some.end.0 c.in-Some.end.1 c.self.inside.attempts)) c.self.invariant.0.in_place c.self.invariant.0.counted refl c.in-Some.ensures.placed
    ∙ ap (λ k. asked_with k.placed (g.C.Crew.account k.crew)) c.self.view_is

pub returns-in-None-clause-asked : goal.returns-in-None-clause-asked
returns-in-None-clause-asked g c = λ _.
    asked_ended (g.C.Crew.account c.self.inside.crew) (g.C.Crew.account c.next-end.new.self) c.self.inside.placed.items c.put_end.new.placed.items c.next-end.result.0 c.next-end.result.1 c.self.invariant.0.in_place c.in-None.ensures.kept c.next-end.ensures.ended
    ∙ ap (λ k. asked_with k.placed (g.C.Crew.account k.crew) ++ Ended c.next-end.result.0 c.next-end.result.1 ((g.C.Crew.account k.crew).attempts + own_starts k.placed) ∷ []) c.self.view_is
