use Rattle.std.proofs.Common.{◌≡◌, take, fold}
use Rattle.options.specs.Stepwise.{with_environment}
use Rattle.options.proofs.opening.enter_all.Given as goal

abbrev pub invariant-loop-entry : goal.invariant-loop-entry
invariant-loop-entry l = l.vars ≡ fold with_environment l.fn.vars (take l.entry-index l.env)
