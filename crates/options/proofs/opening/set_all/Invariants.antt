use Rattle.std.proofs.Common.{◌≡◌, take, fold}
use Rattle.options.specs.Opening.{with_variable}
use Rattle.options.proofs.opening.set_all.Given as goal

abbrev pub invariant-loop-entry : goal.invariant-loop-entry
invariant-loop-entry l = l.vars ≡ fold with_variable l.fn.vars (take l.entry-index l.entries)
