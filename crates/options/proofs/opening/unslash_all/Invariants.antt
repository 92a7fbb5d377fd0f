use Rattle.std.proofs.Common.{◌≡◌, take, fold}
use Rattle.options.specs.Opening.{with_unslashed}
use Rattle.options.proofs.opening.unslash_all.Given as goal

abbrev pub invariant-loop-directory : goal.invariant-loop-directory
invariant-loop-directory l = l.vars ≡ fold with_unslashed l.fn.vars (take l.directory-index l.directory-items)
