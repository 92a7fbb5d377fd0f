use Rattle.std.proofs.Common.{sym, ap, subst}
use Rattle.crew_trait.specs.Events.{IsSomeBusy}
use Rattle.crew.proofs.SlotLemmas.{lists_some}
use Rattle.crew.proofs.children.Children.place_of_ended.Goals as goal

pub place_of_ended-requires-clause-not_empty : goal.place_of_ended-requires-clause-not_empty
place_of_ended-requires-clause-not_empty g c =
    lists_some c.self.inside.slots.items c.self.inside.events.items c.self.invariant.2 (subst IsSomeBusy (sym (ap (λ m. m.account.events) c.self.view_is)) c.requires)
