use Rattle.std.proofs.Common.{◌≡◌, take}
use Rattle.output_make.proofs.filling.table_of.Given as goal

abbrev pub invariant-names : goal.invariant-names
invariant-names l = l.table ≡ take l.i l.vars
