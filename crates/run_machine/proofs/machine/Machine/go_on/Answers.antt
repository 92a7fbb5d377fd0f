use Rattle.std.proofs.Common.{sym, ap, ◌∙◌, get_or, arith}
use Rattle.run_machine.proofs.Goes.{reach_at, stepped, lands, passes_on, past}
use Rattle.run_machine.proofs.machine.Machine.go_on.Goals as goal

pub arrive-requires : goal.arrive-requires
arrive-requires c =
    let is = c.index-steps-place.is ∙ ap (λ k. get_or c.args.steps.now k c.index-steps-place.result) c.place-in-steps.ensures in
    let place = ap (λ x. x.place) c.in_ok-flow.ensures.unchanged in
    let reach = reach_at c.args.steps.now c.steps.self.place c.index-steps-place.result c.requires.inside (omega (arith, c.place.ensures, c.steps-test.true)) is in
    record { room = omega (arith, place, reach, c.in_ok-flow.ensures.within) }

pub returns-in-Some-clause-turned : goal.returns-in-Some-clause-turned
returns-in-Some-clause-turned c =
    let is = c.index-steps-place.is ∙ ap (λ k. get_or c.args.steps.now k c.index-steps-place.result) c.place-in-steps.ensures in
    lands _ c.in_ok-flow.flow c.in-Some.turn _ c.step.new.self _ _ _ (sym c.in_ok-turn.ensures.turn ∙ c.in-Some.is) c.in_ok-turn.ensures.moved
    (stepped c.args.steps.now c.index-steps-place.result c.in_ok-flow.flow c.args.self.now c.steps.self c.step.new.self (omega (arith, c.place.ensures, c.steps-test.true)) is c.requires.rests c.steps.invariant c.in_ok-flow.ensures.unchanged c.in_ok-flow.ensures.asks c.in_ok-flow.ensures.group c.in_ok-flow.ensures.heeds c.in_ok-flow.ensures.leads)

pub steps-preserved : goal.steps-preserved
steps-preserved c =
    let is = c.index-steps-place.is ∙ ap (λ k. get_or c.args.steps.now k c.index-steps-place.result) c.place-in-steps.ensures in
    passes_on c.args.steps.now c.index-steps-place.result c.in_ok-flow.flow c.args.self.now c.steps.self c.step.new.self _ (omega (arith, c.place.ensures, c.steps-test.true)) is c.steps.invariant c.in_ok-flow.ensures.unchanged c.in_ok-flow.ensures.within c.requires.inside c.in_ok-flow.ensures.leads (sym c.in_ok-turn.ensures.turn ∙ c.in_default.is) c.in_ok-turn.ensures.moved

pub returns-clause-turned : goal.returns-clause-turned
returns-clause-turned c = past c.args.steps.now c.args.self.now c.steps.self _ (omega (arith, c.place.ensures, c.steps-test.false)) c.requires.rests c.steps.invariant c.pass_end.ensures
