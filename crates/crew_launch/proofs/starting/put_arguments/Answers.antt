use Rattle.std.proofs.Common.{IsUtf8, subst, sym}
use Rattle.crew_launch.proofs.ChildLemmas.{not_all}
use Rattle.crew_launch.proofs.starting.put_arguments.Goals as goal

pub returns-in_default-clause-fault : goal.returns-in_default-clause-fault
returns-in_default-clause-fault c =
    not_all _ c.argument-item.result c.loop-argument.argument-index c.argument-item.is c.loop-argument-test.true
    (λ good. c.in_default.ensures.cases.0 (subst IsUtf8 (sym c.as_slice.ensures) good))
