use Rattle.std.proofs.Common.{◌≡◌, ◌+◌, drop}
use Rattle.shell_case.specs.Parts.{group_len}
use Rattle.shell_case.proofs.parts.group_len.Given as goal

abbrev pub invariant-loop-i : goal.invariant-loop-i
invariant-loop-i l = l.i + group_len (drop l.i l.pieces) ≡ group_len l.pieces
