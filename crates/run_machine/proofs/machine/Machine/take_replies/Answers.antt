use Rattle.std.proofs.Common.{sym, ap, ◌∙◌, arith}
use Rattle.std.proofs.lemmas.List.{length-map}
use Rattle.plan.specs.Walk.{instruction_of}
use Rattle.run_machine.proofs.Goes.{told_all, lands, onward, turned_after_ok}
use Rattle.run_machine.proofs.machine.Machine.take_replies.Goals as goal

pub arrive-requires : goal.arrive-requires
arrive-requires c =
    record { room = omega (arith, ap (λ x. x.place) c.in_ok-flow.ensures.unchanged, c.requires.holds.place, length-map c.args.steps.now instruction_of, c.in_ok-flow.ensures.step.within) }

pub returns-in-Some-clause-turned : goal.returns-in-Some-clause-turned
returns-in-Some-clause-turned c =
    lands _ c.in_ok-flow.flow c.in-Some.turn _ c.hear.new.self _ _ _ (sym c.in_ok-turn.ensures.turn ∙ c.in-Some.is) c.in_ok-turn.ensures.moved
    (told_all _ c.in_ok-flow.flow c.args.self.now c.hear.new.self c.requires.asking c.requires.holds c.in_ok-flow.ensures.unchanged c.in_ok-flow.ensures.step.asks c.in_ok-flow.ensures.step.group c.in_ok-flow.ensures.step.heeds c.in_ok-flow.ensures.leads)

pub returns-in-None-clause-turned : goal.returns-in-None-clause-turned
returns-in-None-clause-turned c =
    turned_after_ok _ c.go_on.result c.args.self.now _ c.go_on.new.self
    (onward _ c.in_ok-flow.flow c.args.self.now c.hear.new.self _ _ _ (sym c.in_ok-turn.ensures.turn ∙ c.in-None.is) c.in_ok-turn.ensures.moved c.in_ok-flow.ensures.step.within
    (told_all _ c.in_ok-flow.flow c.args.self.now c.hear.new.self c.requires.asking c.requires.holds c.in_ok-flow.ensures.unchanged c.in_ok-flow.ensures.step.asks c.in_ok-flow.ensures.step.group c.in_ok-flow.ensures.step.heeds c.in_ok-flow.ensures.leads))
    c.go_on.ensures.turned
