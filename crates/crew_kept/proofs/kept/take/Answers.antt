use Rattle.std.proofs.Common.{ap, subst, sym}
use Rattle.crew_kept.specs.Records.{MayPass, lacks}
use Rattle.crew_kept.proofs.kept.take.Goals as goal

pub returns-in-Err-clause-none : goal.returns-in-Err-clause-none
returns-in-Err-clause-none c = subst (λ s. MayPass c.args.supply.now.records c.args.number c.args.job.now c.args.supply.now.state s) (sym (ap (λ v. v.state) c.lack.ensures)) lacks
