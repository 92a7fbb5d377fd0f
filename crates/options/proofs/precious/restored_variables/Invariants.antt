use Rattle.std.proofs.Common.{◌≡◌}
use Rattle.options.specs.Precious.{restored_from}
use Rattle.options.proofs.Restorings.{left}
use Rattle.options.proofs.precious.restored_variables.Given as goal

abbrev pub invariant-names : goal.invariant-names
invariant-names l = left l.precious l.vars l.marked l.changes.items l.i l.precious ≡ restored_from l.precious 1 l.vars l.marked l.precious
