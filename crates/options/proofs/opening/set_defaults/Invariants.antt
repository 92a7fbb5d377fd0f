use Rattle.std.proofs.Common.{◌≡◌, take, fold}
use Rattle.options.specs.Stepwise.{with_default}
use Rattle.options.proofs.opening.set_defaults.Given as goal

abbrev pub invariant-loop-directory : goal.invariant-loop-directory
invariant-loop-directory l = l.vars ≡ fold with_default l.fn.vars (take l.directory-index l.directory-items)
