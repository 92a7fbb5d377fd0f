use Rattle.std.proofs.Common.{◌≡◌}
use Rattle.crew.proofs.children.place_of_ended.Given as goal

abbrev pub invariant-turns : goal.invariant-turns
invariant-turns g l = l.table ≡ l.fn.table
