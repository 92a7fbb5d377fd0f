use Rattle.std.proofs.Common.{ap, ◌∙◌}
use Rattle.crew_trait.specs.Events.{busy}
use Rattle.crew_progress.proofs.Counts.{counted_start}
use Rattle.crew_progress.proofs.watched.WatchedCrew.start.Goals as goal

pub invariant_of-self-2 : goal.invariant_of-self-2
invariant_of-self-2 g c =
    counted_start _ _ _ _ _ _ _ c.args.slot c.args.job c.self.invariant (ap (λ w. busy c.args.slot (g.C.Crew.account w.crew).events) c.self.view_is ∙ c.requires.free)
    c.start.ensures.number c.in_ok-start.ensures.taken c.subject_of-command.ensures
