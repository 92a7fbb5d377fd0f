use Rattle.std.proofs.Common.{◌≡◌, ◌+◌, drop}
use Rattle.shell_case.specs.Parts.{byte_count}
use Rattle.shell_case.proofs.places.byte_count.Given as goal

abbrev pub invariant-loop-i : goal.invariant-loop-i
invariant-loop-i l = l.i + byte_count (drop l.i l.pieces) ≡ byte_count l.pieces
