use Rattle.std.proofs.Common.{◌≡◌, take}
use Rattle.deftable.proofs.table.copy_of.Given as goal

abbrev pub invariant-names : goal.invariant-names
invariant-names l = l.copy ≡ take l.i l.table
