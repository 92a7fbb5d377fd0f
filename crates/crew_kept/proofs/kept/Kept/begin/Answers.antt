use Rattle.std.proofs.Common.{◌≡◌, ◌+◌, ◌^◌, ◌<◌, ◌≤◌, arith, cond, length, length-append, vec_capacity, [], ◌∷◌, ◌++◌, sym, ap, ◌∙◌, subst}
use Rattle.crew_trait.specs.Events.{busy}
use Rattle.crew_trait.specs.declared.event.CrewEvent.TheVariants.{Started}
use Rattle.crew_kept.specs.declared.placed.Step.TheVariants.{Happened, Refusal}
use Rattle.crew_kept.proofs.Asking.{asked_placed, asked_started}
use Rattle.crew_kept.specs.Taking.{asked_with, joined, own_refusals, own_starts}
use Rattle.crew_kept.proofs.Keeping.{asked_events_on, fits_asked, fits_linked, fits_turned, kept_asked_on, kept_refused_on, kept_taken_on, kept_turned_on, no_refusal_on, own_number_on, own_refusals_on, taken_events_on, turned_events_on}
use Rattle.crew_kept.proofs.kept.Kept.begin.Goals as goal

pub invariant_of-self : goal.invariant_of-self
invariant_of-self g c = (
  kept_taken_on (g.C.Crew.account c.self.inside.crew) c.self.inside.supply.records c.take.new.supply.records c.self.inside.placed.items c.take.new.placed.items c.put_start.new.placed.items c.self.inside.waiting.items c.take.new.waiting.items c.put_start.new.waiting.items c.self.inside.linked c.after_taken-self-inside.result c.self.inside.supply.state c.take.new.supply.state c.self.inside.events c.self.inside.attempts c.args.slot c.args.job c.in-Some.taken c.self.invariant.0
      (subst (λ k. (g.C.Crew.account k.crew).attempts + own_starts k.placed < 2 ^ 62) (sym c.self.view_is) c.requires.attempts)
      (ap (λ k. busy c.args.slot (joined 0 0 k.placed (g.C.Crew.account k.crew).events)) c.self.view_is ∙ c.requires.free)
      c.in-Some.ensures.taken c.after_taken-self-inside.ensures (ap (λ v. v.records) c.in-Some.ensures.same) (ap (λ v. v.state) c.in-Some.ensures.same) c.in-Some.ensures.placed c.in-Some.ensures.waiting c.put_start.ensures.placed c.put_start.ensures.waiting,
  fits_linked c.after_taken-self-inside.result (length c.put_start.new.placed.items + length c.put_start.new.waiting.items) (vec_capacity c.put_start.new.placed) c.put_start.ensures.room,
)

pub invariant_of-self-then-is_refused : goal.invariant_of-self-then-is_refused
invariant_of-self-then-is_refused g c = (
  kept_turned_on (g.C.Crew.account c.self.inside.crew) c.self.inside.supply.records c.take.new.supply.records c.self.inside.placed.items c.take.new.placed.items c.put_refusal.new.placed.items c.self.inside.waiting.items c.take.new.waiting.items c.self.inside.linked c.is_refused.result c.self.inside.supply.state c.take.new.supply.state c.self.inside.events c.self.inside.attempts c.args.job c.self.invariant.0 c.in-None.ensures.none c.is_refused.ensures c.if-is_refused.true
      (subst (λ k. (g.C.Crew.account k.crew).attempts + own_starts k.placed < 2 ^ 62) (sym c.self.view_is) c.requires.attempts)
      c.in-None.ensures.records c.in-None.ensures.placed c.in-None.ensures.waiting c.put_refusal.ensures.placed,
  fits_turned c.self.inside.linked c.is_refused.result c.args.job (length c.self.inside.placed.items) (length c.take.new.placed.items) (length c.put_refusal.new.placed.items) (length c.self.inside.waiting.items) (length c.take.new.waiting.items) (vec_capacity c.self.inside.placed) (vec_capacity c.take.new.placed) (vec_capacity c.put_refusal.new.placed) c.is_refused.ensures c.if-is_refused.true c.self.invariant.1
      (ap length c.in-None.ensures.placed) (ap length c.in-None.ensures.waiting) c.in-None.ensures.grown
      (ap length c.put_refusal.ensures.placed ∙ length-append c.take.new.placed.items (record { place = c.self.inside.events; step = Refusal (c.self.inside.attempts + 1) } ∷ [])) c.put_refusal.ensures.room,
)

pub returns-then-is_refused-clause-number : goal.returns-then-is_refused-clause-number
returns-then-is_refused-clause-number g c =
    own_number_on (g.C.Crew.account c.self.inside.crew).attempts c.self.inside.events (Refusal (c.self.inside.attempts + 1)) c.self.inside.placed.items c.take.new.placed.items c.put_refusal.new.placed.items c.in-None.ensures.placed c.put_refusal.ensures.placed
    ∙ ap (λ k. ((g.C.Crew.account k.crew).attempts + own_starts k.placed) + 1) c.self.view_is

pub returns-then-is_refused-clause-refused : goal.returns-then-is_refused-clause-refused
returns-then-is_refused-clause-refused g c =
    turned_events_on (g.C.Crew.account c.self.inside.crew) c.self.inside.supply.records c.self.inside.placed.items c.take.new.placed.items c.put_refusal.new.placed.items c.self.inside.waiting.items c.self.inside.linked c.self.inside.supply.state c.self.inside.events c.self.inside.attempts c.self.invariant.0 c.in-None.ensures.placed c.put_refusal.ensures.placed
    ∙ ap (λ k. joined 0 0 k.placed (g.C.Crew.account k.crew).events) c.self.view_is

pub returns-then-is_refused-clause-refused_count : goal.returns-then-is_refused-clause-refused_count
returns-then-is_refused-clause-refused_count g c =
    own_refusals_on (g.C.Crew.account c.self.inside.crew).failures c.self.inside.events (Refusal (c.self.inside.attempts + 1)) c.self.inside.placed.items c.take.new.placed.items c.put_refusal.new.placed.items c.in-None.ensures.placed c.put_refusal.ensures.placed
    ∙ ap (λ k. ((g.C.Crew.account k.crew).failures + own_refusals k.placed) + 1) c.self.view_is

pub invariant_of-self-in_err-start-in-None : goal.invariant_of-self-in_err-start-in-None
invariant_of-self-in_err-start-in-None g c =
    let fits : length c.take.new.placed.items + length c.take.new.waiting.items + cond c.self.inside.linked 1 0 ≤ vec_capacity c.take.new.placed =
    omega (arith, c.self.invariant.1, ap length c.in-None.ensures.placed, ap length c.in-None.ensures.waiting, c.in-None.ensures.grown) in (
      kept_refused_on (g.C.Crew.account c.self.inside.crew) (g.C.Crew.account c.start.new.self) c.self.inside.supply.records c.take.new.supply.records c.self.inside.placed.items c.take.new.placed.items c.self.inside.waiting.items c.take.new.waiting.items c.self.inside.linked c.is_refused.result c.self.inside.supply.state c.take.new.supply.state c.self.inside.events c.self.inside.attempts c.args.job c.self.invariant.0 c.in-None.ensures.none c.is_refused.ensures c.if-is_refused.false
          (subst (λ k. (g.C.Crew.account k.crew).attempts + own_starts k.placed < 2 ^ 62) (sym c.self.view_is) c.requires.attempts)
          c.in-None.ensures.records c.in-None.ensures.placed c.in-None.ensures.waiting c.in_err-start-in-None.ensures.refused c.in_err-start-in-None.ensures.number,
      fits,
    )

pub invariant_of-self-in-None : goal.invariant_of-self-in-None
invariant_of-self-in-None g c = (
  kept_asked_on (g.C.Crew.account c.self.inside.crew) (g.C.Crew.account c.start.new.self) c.self.inside.supply.records c.take.new.supply.records c.self.inside.placed.items c.take.new.placed.items c.self.inside.waiting.items c.take.new.waiting.items c.self.inside.linked c.after_asked-linked.result c.is_refused.result c.self.inside.supply.state c.take.new.supply.state c.self.inside.events c.self.inside.attempts c.args.slot c.args.job c.self.invariant.0 c.in-None.ensures.none c.is_refused.ensures c.if-is_refused.false c.after_asked-linked.ensures
      (subst (λ k. (g.C.Crew.account k.crew).attempts + own_starts k.placed < 2 ^ 62) (sym c.self.view_is) c.requires.attempts)
      (ap (λ k. busy c.args.slot (joined 0 0 k.placed (g.C.Crew.account k.crew).events)) c.self.view_is ∙ c.requires.free)
      c.in-None.ensures.records c.in-None.ensures.placed c.in-None.ensures.waiting c.in_ok-start-in-None.ensures.taken c.in_ok-start-in-None.ensures.number,
  fits_asked c.self.inside.linked c.after_asked-linked.result c.args.job (length c.self.inside.placed.items) (length c.take.new.placed.items) (length c.self.inside.waiting.items) (length c.take.new.waiting.items) (vec_capacity c.self.inside.placed) (vec_capacity c.take.new.placed) c.after_asked-linked.ensures c.self.invariant.1
      (ap length c.in-None.ensures.placed) (ap length c.in-None.ensures.waiting) c.in-None.ensures.grown,
)

pub returns-in-Some-clause-number : goal.returns-in-Some-clause-number
returns-in-Some-clause-number g c =
    own_number_on (g.C.Crew.account c.self.inside.crew).attempts c.self.inside.events (Happened (Started c.args.slot c.args.job (c.self.inside.attempts + 1))) c.self.inside.placed.items c.take.new.placed.items c.put_start.new.placed.items c.in-Some.ensures.placed c.put_start.ensures.placed
    ∙ ap (λ k. ((g.C.Crew.account k.crew).attempts + own_starts k.placed) + 1) c.self.view_is

pub returns-in-Some-clause-taken : goal.returns-in-Some-clause-taken
returns-in-Some-clause-taken g c =
    taken_events_on (g.C.Crew.account c.self.inside.crew) c.self.inside.supply.records c.self.inside.placed.items c.take.new.placed.items c.put_start.new.placed.items c.self.inside.waiting.items c.self.inside.linked c.self.inside.supply.state c.self.inside.events c.self.inside.attempts c.args.slot c.args.job c.self.invariant.0 c.in-Some.ensures.placed c.put_start.ensures.placed
    ∙ ap (λ k. joined 0 0 k.placed (g.C.Crew.account k.crew).events ++ Started c.args.slot c.args.job (((g.C.Crew.account k.crew).attempts + own_starts k.placed) + 1) ∷ []) c.self.view_is

pub returns-in-Some-clause-taken_count : goal.returns-in-Some-clause-taken_count
returns-in-Some-clause-taken_count g c =
    no_refusal_on (g.C.Crew.account c.self.inside.crew).failures c.self.inside.events c.args.slot (c.self.inside.attempts + 1) c.args.job c.self.inside.placed.items c.take.new.placed.items c.put_start.new.placed.items c.in-Some.ensures.placed c.put_start.ensures.placed
    ∙ ap (λ k. (g.C.Crew.account k.crew).failures + own_refusals k.placed) c.self.view_is

pub returns-in_ok-start-in-None-clause-taken : goal.returns-in_ok-start-in-None-clause-taken
returns-in_ok-start-in-None-clause-taken g c =
    asked_events_on (g.C.Crew.account c.self.inside.crew) (g.C.Crew.account c.start.new.self) c.self.inside.placed.items c.take.new.placed.items c.args.slot c.args.job c.self.invariant.0.in_place c.in-None.ensures.placed c.in_ok-start-in-None.ensures.taken
    ∙ ap (λ k. joined 0 0 k.placed (g.C.Crew.account k.crew).events ++ Started c.args.slot c.args.job (((g.C.Crew.account k.crew).attempts + own_starts k.placed) + 1) ∷ []) c.self.view_is

pub returns-then-is_refused-clause-not_started : goal.returns-then-is_refused-clause-not_started
returns-then-is_refused-clause-not_started g c =
    asked_placed (g.C.Crew.account c.self.inside.crew).events c.self.inside.placed.items c.take.new.placed.items c.put_refusal.new.placed.items c.self.inside.events (Refusal (c.self.inside.attempts + 1)) c.self.invariant.0.in_place c.self.invariant.0.counted c.in-None.ensures.placed c.put_refusal.ensures.placed
    ∙ ap (λ k. asked_with k.placed (g.C.Crew.account k.crew)) c.self.view_is

pub returns-in-Some-clause-unasked : goal.returns-in-Some-clause-unasked
returns-in-Some-clause-unasked g c =
    asked_placed (g.C.Crew.account c.self.inside.crew).events c.self.inside.placed.items c.take.new.placed.items c.put_start.new.placed.items c.self.inside.events (Happened (Started c.args.slot c.args.job (c.self.inside.attempts + 1))) c.self.invariant.0.in_place c.self.invariant.0.counted c.in-Some.ensures.placed c.put_start.ensures.placed
    ∙ ap (λ k. asked_with k.placed (g.C.Crew.account k.crew)) c.self.view_is

pub returns-in_ok-start-in-None-clause-asked : goal.returns-in_ok-start-in-None-clause-asked
returns-in_ok-start-in-None-clause-asked g c =
    let number : c.self.inside.attempts + 1 ≡ ((g.C.Crew.account c.self.inside.crew).attempts + 1) + own_starts c.self.inside.placed.items = omega (arith, c.self.invariant.0.tried) in
    asked_started (g.C.Crew.account c.self.inside.crew) (g.C.Crew.account c.start.new.self) c.self.inside.placed.items c.take.new.placed.items c.args.slot (c.self.inside.attempts + 1) c.args.job c.self.invariant.0.in_place c.in-None.ensures.placed c.in_ok-start-in-None.ensures.taken number
    ∙ ap (λ k. asked_with k.placed (g.C.Crew.account k.crew) ++ Started c.args.slot c.args.job (c.self.inside.attempts + 1) ∷ []) c.self.view_is
