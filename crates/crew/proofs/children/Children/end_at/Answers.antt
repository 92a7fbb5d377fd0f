use Rattle.std.proofs.Common.{◌≡◌, ◌+◌, ◌≤◌, ◌∷◌, None, get_or, length, vec_capacity, ap, sym, ◌∙◌, arith, length-append, subst}
use Rattle.std.specs.Prelude.{remove}
use Rattle.std.proofs.lemmas.List.Edits.{length-remove}
use Rattle.crew_trait.specs.Events.{busy, slots_in_flight}
use Rattle.crew.specs.Holding.{Ends, number_in}
use Rattle.crew.specs.Sound.{ListsBusy}
use Rattle.crew.proofs.ChildLemmas.{runs_ended}
use Rattle.crew.proofs.Holding.{end_is_none, end_sized, ends_at, has_child, have_end}
use Rattle.crew.proofs.SlotLemmas.{lists_end, lists_busy, slots_end, place_within, first_and_rest}
use Rattle.crew.proofs.children.Children.end_at.Goals as goal

pub take_slot-slot-requires-clause-place : goal.take_slot-slot-requires-clause-place
take_slot-slot-requires-clause-place g c =
    place_within c.self.inside.slots.items c.self.inside.events.items _ _ c.self.invariant.1 c.self.invariant.2 (ap (λ m. m.account.events) c.self.view_is) c.requires.flying c.requires.place

pub end-reply-requires-clause-taken : goal.end-reply-requires-clause-taken
end-reply-requires-clause-taken g c =
    has_child c.self.inside.table.children c.self.inside.slots.items c.self.inside.events.items c.args.place c.take_slot-slot.result c.take_slot-slot.ensures.inside c.take_slot-slot.ensures.slot c.self.invariant.6

pub put_end-requires : goal.put_end-requires
put_end-requires g c = omega (arith, c.take_slot-slot.ensures.inside, c.self.invariant.4)

pub invariant_of-self : goal.invariant_of-self
invariant_of-self g c =
    let xs = c.self.inside.slots.items in
    let es = c.self.inside.events.items in
    let slot = c.take_slot-slot.result in
    let at = c.take_slot-slot.ensures.slot in
    let others = c.take_slot-slot.ensures.others in
    let within = c.take_slot-slot.ensures.inside in
    let order : c.take_slot-slot.new.slots.items ≡ slots_in_flight c.put_end.new.events.items = slots_end xs _ es _ c.args.place slot _ _ c.self.invariant.1 c.self.invariant.2 within at others c.put_end.ensures.items in
    let lists : ListsBusy c.take_slot-slot.new.slots.items c.put_end.new.events.items = lists_end xs _ es _ c.args.place slot _ _ c.self.invariant.2 within at others c.put_end.ensures.items in
    let m : length c.put_end.new.events.items ≡ length es + 1 = ap length c.put_end.ensures.items ∙ length-append _ _ in
    let n : length c.take_slot-slot.new.slots.items + 1 ≡ length xs = ap (λ l. length l + 1) others ∙ length-remove xs c.args.place within in
    let room : length c.put_end.new.events.items + length c.take_slot-slot.new.slots.items ≤ vec_capacity c.put_end.new.events = omega (arith, c.self.invariant.4, m, n, c.put_end.ensures.room) in (
      end_sized c.self.inside.table c.end-reply.new.self slot _ _ _ c.end-reply.ensures.end c.self.invariant.0,
      order,
      lists,
      c.take_slot-slot.ensures.within,
      room,
      runs_ended _ _ _ _ _ _ c.self.invariant.5 c.put_end.ensures.items,
      have_end c.self.inside.table.children _ xs _ es _ c.args.place slot _ _ c.end-reply.ensures.end.1 others c.put_end.ensures.items lists c.self.invariant.6,
    )

pub returns-clause-was_busy : goal.returns-clause-was_busy
returns-clause-was_busy g c =
    ap (λ m. busy c.take_slot-slot.result m.account.events) (sym c.self.view_is)
    ∙ lists_busy c.self.inside.slots.items c.self.inside.events.items c.args.place c.take_slot-slot.result c.self.invariant.2 c.take_slot-slot.ensures.inside c.take_slot-slot.ensures.slot

pub returns-clause-others : goal.returns-clause-others
returns-clause-others g c =
    let order : c.take_slot-slot.new.slots.items ≡ slots_in_flight c.put_end.new.events.items = slots_end c.self.inside.slots.items _ c.self.inside.events.items _ c.args.place c.take_slot-slot.result _ _ c.self.invariant.1 c.self.invariant.2 c.take_slot-slot.ensures.inside c.take_slot-slot.ensures.slot c.take_slot-slot.ensures.others c.put_end.ensures.items in
    sym order ∙ c.take_slot-slot.ensures.others ∙ ap (λ s. remove s c.args.place) (c.self.invariant.1 ∙ ap (λ m. slots_in_flight m.account.events) c.self.view_is)

pub returns-clause-oldest : goal.returns-clause-oldest
returns-clause-oldest g c = λ none.
    let xs = c.self.inside.slots.items in
    let es = c.self.inside.events.items in
    let slot = c.take_slot-slot.result in
    let within = c.take_slot-slot.ensures.inside in
    let order : c.take_slot-slot.new.slots.items ≡ slots_in_flight c.put_end.new.events.items = slots_end xs _ es _ c.args.place slot _ _ c.self.invariant.1 c.self.invariant.2 within c.take_slot-slot.ensures.slot c.take_slot-slot.ensures.others c.put_end.ensures.items in
    ap (λ m. slots_in_flight m.account.events) (sym c.self.view_is) ∙ sym c.self.invariant.1 ∙ first_and_rest xs _ c.args.place slot within c.take_slot-slot.ensures.slot c.take_slot-slot.ensures.others none ∙ ap (λ t. slot ∷ t) order

pub returns-clause-reply : goal.returns-clause-reply
returns-clause-reply g c = end_is_none _ _ _ _ c.end-reply.ensures.end.0

pub returns-clause-child : goal.returns-clause-child
returns-clause-child g c =
    let slot = c.take_slot-slot.result in
    subst (λ m. Ends m.table c.end-reply.new.self slot (number_in slot m.account.events) c.end-reply.result.0) c.self.view_is
    (ends_at c.self.inside.table c.end-reply.new.self c.self.inside.slots.items c.self.inside.events.items c.args.place slot c.end-reply.result.0 c.take_slot-slot.ensures.inside c.take_slot-slot.ensures.slot c.self.invariant.6 c.end-reply.ensures.end)
