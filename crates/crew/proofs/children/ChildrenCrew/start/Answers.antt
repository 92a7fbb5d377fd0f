use Rattle.std.proofs.Common.{◌≡◌, ◌+◌, ◌≤◌, ◌<◌, false, length, vec_capacity, refl, ap, sym, ◌∙◌, subst, arith, length-append}
use Rattle.std.specs.Prelude.{All}
use Rattle.crew_trait.specs.Events.{busy, slots_in_flight}
use Rattle.crew.specs.Sound.{ListsBusy}
use Rattle.crew.proofs.ScriptLemmas.{moved}
use Rattle.crew.proofs.ChildLemmas.{lists_same, runs_refused, runs_started}
use Rattle.crew.proofs.Holding.{have_refused, have_start, refused_sized, start_sized}
use Rattle.crew.proofs.SlotLemmas.{lists_start, slots_start, below_push}
use Rattle.crew.proofs.children.ChildrenCrew.start.Goals as goal

pub invariant_of-self-2 : goal.invariant_of-self-2
invariant_of-self-2 g c =
    let free = ap (λ m. busy c.args.slot m.account.events) c.self.view_is ∙ c.requires.free in
    let events = moved _ _ _ _ c.put.ensures.items c.launched.ensures.events in
    let slots = moved _ _ _ _ c.put_slot.ensures c.launched.ensures.slots in
    let order : c.put_slot.new.slots.items ≡ slots_in_flight c.put.new.list.items = slots_start c.self.inside.slots.items _ c.self.inside.events.items _ c.args.slot _ _ c.self.invariant.1 slots events in
    let lists : ListsBusy c.put_slot.new.slots.items c.put.new.list.items = lists_start c.self.inside.slots.items _ c.self.inside.events.items _ c.args.slot _ _ c.self.invariant.2 free slots events in
    let within : All (λ x. x < 16) c.put_slot.new.slots.items = subst (All (λ x. x < 16)) (sym slots) (below_push _ _ c.self.invariant.3 c.requires.slot) in
    let n : length c.put_slot.new.slots.items ≡ length c.launched.new.slots.items + 1 = ap length c.put_slot.ensures ∙ length-append _ _ in
    let m : length c.put.new.list.items ≡ length c.launched.new.events.items + 1 = ap length c.put.ensures.items ∙ length-append _ _ in
    let room : length c.put.new.list.items + length c.put_slot.new.slots.items ≤ vec_capacity c.put.new.list = omega (arith, n, m, c.in-Ok.ensures.room, c.put.ensures.room) in (
      start_sized c.self.inside.table c.launched.new.table c.args.slot _ _ c.in-Ok.ensures.child c.self.invariant.0,
      order,
      lists,
      within,
      room,
      runs_started _ _ _ _ _ _ _ _ c.self.invariant.5 c.in-Ok.ensures.taken refl events,
      have_start c.self.inside.table c.launched.new.table c.self.inside.events.items _ c.self.inside.slots.items _ c.args.slot _ _ (omega (arith, c.requires.slot, c.self.invariant.0)) c.in-Ok.ensures.child slots events c.self.invariant.2 free c.self.invariant.6,
    )

pub invariant_of-self : goal.invariant_of-self
invariant_of-self g c =
    let events = c.launched.ensures.events in
    let slots = c.launched.ensures.slots in
    let order : c.launched.new.slots.items ≡ slots_in_flight c.launched.new.events.items = slots ∙ c.self.invariant.1 ∙ sym (ap slots_in_flight events) in
    let lists : ListsBusy c.launched.new.slots.items c.launched.new.events.items = lists_same _ _ _ _ c.self.invariant.2 slots events in
    let within : All (λ x. x < 16) c.launched.new.slots.items = subst (All (λ x. x < 16)) (sym slots) c.self.invariant.3 in
    let room : length c.launched.new.events.items + length c.launched.new.slots.items ≤ vec_capacity c.launched.new.events = omega (arith, c.self.invariant.4, ap length events, ap length slots, c.launched.ensures.grown) in (
      refused_sized c.self.inside.table c.launched.new.table _ _ c.args.job c.in_default.ensures.cause c.self.invariant.0,
      order,
      lists,
      within,
      room,
      runs_refused _ _ _ _ c.args.job c.self.invariant.5 c.in_default.ensures.refused events,
      have_refused c.self.inside.table c.launched.new.table c.self.inside.events.items _ c.self.inside.slots.items _ _ c.args.job c.in_default.ensures.cause slots events c.self.invariant.6,
    )
