use Rattle.std.proofs.Common.{subst}
use Rattle.fallible.proofs.Clauses.{found, only, fault, named}
use Rattle.options.proofs.Laws.{opening_is, is_opening, opening_fails, fails_opening}
use Rattle.options.proofs.Readings.{or_memory}
use Rattle.options.proofs.Steps.{stepwise_is_opening}
use Rattle.options.specs.Opening.{IsOpening, IsOpeningFault}
use Rattle.options_line.specs.Reading.{Gives, Fails}
use Rattle.options.proofs.settings.read_args_of.Goals as goal

pub returns-clause-exact : goal.returns-clause-exact
returns-clause-exact c = subst (Gives (λ s. s) c.read_stepwise.result) (stepwise_is_opening _ _ _ _ _) c.read_stepwise.ensures.exact

pub returns-clause-sound : goal.returns-clause-sound
returns-clause-sound c =
    found Fails _ _ _ (returns-clause-exact c) (IsOpening c.args.features.now c.args.packages.now c.args.precious.now c.args.args.now c.args.env.now)
    (opening_is c.args.features.now c.args.packages.now c.args.precious.now c.args.args.now c.args.env.now)

pub returns-clause-complete : goal.returns-clause-complete
returns-clause-complete c =
    λ s h. only Fails _ _ _ (returns-clause-exact c) s (is_opening c.args.features.now c.args.packages.now c.args.precious.now c.args.args.now c.args.env.now s h)

pub returns-clause-error_sound : goal.returns-clause-error_sound
returns-clause-error_sound c =
    fault Fails _ _ _ (returns-clause-exact c) or_memory (IsOpeningFault c.args.features.now c.args.packages.now c.args.precious.now c.args.args.now c.args.env.now)
    (opening_fails c.args.features.now c.args.packages.now c.args.precious.now c.args.args.now c.args.env.now)

pub returns-clause-error_complete : goal.returns-clause-error_complete
returns-clause-error_complete c =
    λ f h. named Fails _ _ _ (returns-clause-exact c) f (fails_opening c.args.features.now c.args.packages.now c.args.precious.now c.args.args.now c.args.env.now f h)
