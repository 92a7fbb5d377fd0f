use Rattle.crew_progress.proofs.Counts.{counted_end, gone}
use Rattle.crew_progress.proofs.watched.WatchedCrew.next.Goals as goal

pub invariant_of-self : goal.invariant_of-self
invariant_of-self g c = counted_end _ _ _ _ _ _ _ _ c.self.invariant c.next-slot.ensures.was_busy c.next-slot.ensures.number c.next-slot.ensures.ended

pub returns-clause-gone : goal.returns-clause-gone
returns-clause-gone g c =
    let counted = counted_end _ _ _ _ _ _ _ _ c.self.invariant c.next-slot.ensures.was_busy c.next-slot.ensures.number c.next-slot.ensures.ended in
    gone (g.C.Crew.account c.next-slot.new.self) _ _ _ _ counted
