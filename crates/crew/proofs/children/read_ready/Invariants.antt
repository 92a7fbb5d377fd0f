use Rattle.std.proofs.Common.{◌≡◌}
use Rattle.crew.proofs.children.read_ready.Given as goal

abbrev pub invariant-loop-place : goal.invariant-loop-place
invariant-loop-place g l = l.table ≡ l.fn.table
