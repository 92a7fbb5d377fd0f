use Rattle.std.proofs.Common.{sym, ap, ◌∙◌, length, arith}
use Rattle.crew_trait.specs.Events.{slots_in_flight}
use Rattle.crew.proofs.ChildLemmas.{runs_none}
use Rattle.crew.proofs.Holding.{have_none}
use Rattle.crew.proofs.SlotLemmas.{lists_none, below_none}
use Rattle.crew.proofs.children.Children.new.Goals as goal

pub invariant_of-result : goal.invariant_of-result
invariant_of-result g c =
    let slots = c.new-2.ensures.items in
    let events = c.new-3.ensures.items in
    (c.in_ok-table.ensures.slots, slots ∙ sym (ap slots_in_flight events), lists_none _ _ slots events, below_none _ slots, omega (arith, ap length slots, ap length events), runs_none _ _ c.requires events, have_none _ c.new-3.result.items _ slots)
