use Rattle.std.proofs.Common.{length, ap, subst}
use Rattle.meaning.specs.Play.{whole}
use Rattle.plan.specs.Walk.{empty_mind, walk}
use Rattle.proberun.specs.Ran.{Ran}
use Rattle.proberun.proofs.running.run_in.Goals as goal

pub returns-clause-ran : goal.returns-clause-ran
returns-clause-ran g c =
    subst (λ st. Ran (length c.args.slots.now) (whole (walk c.args.plan.now 0 empty_mind st)) (g.C.Crew.account c.args.crew.now) (g.C.Crew.account c.run_groups.new.crew) c.end.result)
    (ap (λ m. m.state) c.new-machine.ensures.value) (c.in_ok-run_groups.ensures.ran c.end.result c.end.ensures)
