use Rattle.std.proofs.Common.{◌-◌, arith, ◌∙◌}
use Rattle.plan.proofs.Weights.{times_is, spent_some, spent_none}
use Rattle.plan.proofs.weight.spend.Goals as goal

pub returns-in_default-clause-exceeds : goal.returns-in_default-clause-exceeds
returns-in_default-clause-exceeds c =
    omega (arith, c.in_default.ensures, times_is (c.args.room - c.args.left) c.args.rounds, c.ranges.room.fits)

pub returns-clause-fits : goal.returns-clause-fits
returns-clause-fits c = spent_some _ _ _ _ (c.in-Some.ensures.1 ∙ times_is (c.args.room - c.args.left) c.args.rounds) c.checked_sub.ensures

pub returns-clause-exceeds : goal.returns-clause-exceeds
returns-clause-exceeds c = spent_none _ _ _ _ (c.in-Some.ensures.1 ∙ times_is (c.args.room - c.args.left) c.args.rounds) c.checked_sub.ensures
