use Rattle.std.proofs.Common.{arith}
use Rattle.plan.proofs.Weights.{weigh_on, weigh_over, weighs_something, rounds_over, choose_some, choose_none, check_some, check_none}
use Rattle.plan.proofs.weight.+weigh.Goals as goal

pub weigh-returns-in_default-clause-exceeds : goal.weigh-returns-in_default-clause-exceeds
weigh-returns-in_default-clause-exceeds t c =
    weigh_over _ _ _ _ _ c.loop-statement-test.true c.statement-item.is c.in_default.ensures.exceeds c.loop-statement.invariant

pub weigh-loop-statement-preserved : goal.weigh-loop-statement-preserved
weigh-loop-statement-preserved t c =
    weigh_on _ _ _ _ _ _ c.loop-statement-test.true c.statement-item.is c.in-Some.ensures.fits c.loop-statement.invariant

pub weigh_statement-returns-in_default-clause-exceeds : goal.weigh_statement-returns-in_default-clause-exceeds
weigh_statement-returns-in_default-clause-exceeds t c =
    omega (arith, weighs_something c.args.statement.now, c.in_default.ensures)

pub weigh_statement-returns-in-Choose-clause-fits : goal.weigh_statement-returns-in-Choose-clause-fits
weigh_statement-returns-in-Choose-clause-fits t c =
    choose_some _ _ _ _ _ _ _ _ c.in-Choose.is c.as_slice.ensures.value (omega (arith, c.in-Some.ensures)) c.weigh_choice.ensures.fits

pub weigh_statement-returns-in-Choose-clause-exceeds : goal.weigh_statement-returns-in-Choose-clause-exceeds
weigh_statement-returns-in-Choose-clause-exceeds t c =
    choose_none _ _ _ _ _ _ _ _ c.in-Choose.is c.as_slice.ensures.value (omega (arith, c.in-Some.ensures)) c.weigh_choice.ensures.exceeds

pub weigh_statement-returns-in-CacheCheck-clause-fits : goal.weigh_statement-returns-in-CacheCheck-clause-fits
weigh_statement-returns-in-CacheCheck-clause-fits t c =
    check_some _ _ _ _ _ _ _ _ c.in-CacheCheck.is c.as_slice-in-CacheCheck.ensures.value (omega (arith, c.in-Some.ensures)) c.weigh.ensures.fits

pub weigh_statement-returns-in-CacheCheck-clause-exceeds : goal.weigh_statement-returns-in-CacheCheck-clause-exceeds
weigh_statement-returns-in-CacheCheck-clause-exceeds t c =
    check_none _ _ _ _ _ _ _ _ c.in-CacheCheck.is c.as_slice-in-CacheCheck.ensures.value (omega (arith, c.in-Some.ensures)) c.weigh.ensures.exceeds

pub weigh_choice-returns-in_default-weigh_cases-clause-exceeds : goal.weigh_choice-returns-in_default-weigh_cases-clause-exceeds
weigh_choice-returns-in_default-weigh_cases-clause-exceeds t c =
    rounds_over _ _ _ _ _ _ c.rounds-rounds.ensures.at_least_one c.rounds-rounds.ensures.number (omega (arith, c.in-Some.ensures, c.entries_asked.ensures)) c.in_default-weigh_cases.ensures.exceeds
