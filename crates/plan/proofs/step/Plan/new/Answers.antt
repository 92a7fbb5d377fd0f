use Rattle.std.proofs.Common.{arith, subst, sym, ap}
use Rattle.plan.specs.Inside.{StaysInside, AreShort, AskFew, asks_after}
use Rattle.plan.specs.Names.{DefinesNames}
use Rattle.plan.proofs.Insides.{asks_bound}
use Rattle.plan.proofs.step.Plan.new.Goals as goal

pub invariant_of-result : goal.invariant_of-result
invariant_of-result c = (
  subst StaysInside (sym c.into_steps.ensures.steps) c.requires.inside,
  subst DefinesNames (sym c.into_steps.ensures.steps) c.into_steps.ensures.names,
  subst AreShort (sym c.into_steps.ensures.steps) c.into_steps.ensures.short,
  subst AskFew (sym c.into_steps.ensures.steps) c.requires.each,
  omega (arith, asks_bound c.args.code c.requires.each, ap (λ l. asks_after l 0) c.into_steps.ensures.steps, c.requires.within),
)
