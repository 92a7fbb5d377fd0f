use Rattle.std.proofs.Common.{◌≡◌, ◌+◌, ◌++◌, [], ◌∷◌, refl, sym, ap, ◌∙◌, arith}
use Rattle.crew.specs.declared.event.Event.TheVariants.{Ended}
use Rattle.crew.specs.contracts.memory.MemoryCrew.{the_view}
use Rattle.crew_trait.specs.Events.{busy, failure_of}
use Rattle.crew.specs.Scripted.{after_next, ending, place}
use Rattle.crew.proofs.ReadyLemmas.{in_lent, ready_busy, ready_next, started_at}
use Rattle.crew.proofs.ScriptLemmas.{ending_is, next_is, ended_events}
use Rattle.crew.proofs.memory.MemoryCrewCrew.next.Goals as goal

pub invariant_of-self : goal.invariant_of-self
invariant_of-self c =
    let child = c.remove-child.result in
    let events = ended_events _ _ _ child.slot _ child.reply _ c.put_end.ensures.items c.into_parts-slot.ensures.slot c.into_parts-slot.ensures.copy in
    (c.self.invariant.0, ready_next c.self.invariant.1 _ _ _ _ _ _ _ child _ _ (in_lent c.as_slice.ensures.value c.next_place-at.ensures.within) c.remove-child.ensures.value c.remove-child.ensures.items events c.put.ensures.items (omega (arith, c.remove-child.ensures.capacity)) c.put_end.ensures.room c.put.ensures.room)

pub returns-clause-was_busy : goal.returns-clause-was_busy
returns-clause-was_busy c =
    let child = c.remove-child.result in
    ap (λ s. busy s c.args.self.now.account.events) c.into_parts-slot.ensures.slot ∙ ap (λ m. busy child.slot m.account.events) (sym c.self.view_is)
    ∙ ready_busy c.self.invariant.1 _ child (in_lent c.as_slice.ensures.value c.next_place-at.ensures.within) c.remove-child.ensures.value

pub returns-clause-reply : goal.returns-clause-reply
returns-clause-reply c = λ e.
    started_at _ _ _ c.self.invariant.1.started (in_lent c.as_slice.ensures.value c.next_place-at.ensures.within) c.remove-child.ensures.value (sym c.into_parts-slot.ensures.reply ∙ e)

pub returns-clause-after : goal.returns-clause-after
returns-clause-after c =
    let m = the_view c.self.inside in
    let child = c.remove-child.result in
    let here : c.next_place-at.result ≡ place m.order m.children = c.next_place-at.ensures.place ∙ ap (place m.order) c.as_slice.ensures.value in
    let events = ended_events _ _ _ child.slot _ child.reply _ c.put_end.ensures.items c.into_parts-slot.ensures.slot c.into_parts-slot.ensures.copy in
    let failures = c.failures_after-self-inside.ensures ∙ ap (λ r. c.self.inside.failures + failure_of r) c.into_parts-slot.ensures.reply in
    let listed = c.put.ensures.items ∙ ap (λ s. c.self.inside.listed.items ++ Ended s ∷ []) c.into_parts-slot.ensures.slot in
    next_is m _ c.next_place-at.result child here (in_lent c.as_slice.ensures.value c.next_place-at.ensures.within) c.remove-child.ensures.value events refl failures listed refl c.remove-child.ensures.items c.next_place-at.ensures.order
    ∙ ap after_next c.self.view_is

pub returns-clause-answer : goal.returns-clause-answer
returns-clause-answer c =
    let m = the_view c.self.inside in
    let child = c.remove-child.result in
    let here : c.next_place-at.result ≡ place m.order m.children = c.next_place-at.ensures.place ∙ ap (place m.order) c.as_slice.ensures.value in
    let end = ending_is m c.next_place-at.result child here (in_lent c.as_slice.ensures.value c.next_place-at.ensures.within) c.remove-child.ensures.value ∙ ap ending c.self.view_is in
    ap (λ s. (s, c.into_parts-slot.result.1)) c.into_parts-slot.ensures.slot ∙ ap (λ r. (child.slot, r)) c.into_parts-slot.ensures.reply ∙ ap (λ k. (k.slot, k.reply)) end
