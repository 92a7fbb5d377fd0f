use Rattle.std.proofs.Common.{◌≡◌, ◌++◌, drop}
use Rattle.shell_bare.specs.Joining.{joined_from, joined}
use Rattle.shell_bare.proofs.continuation.join_lines.Given as goal

abbrev pub invariant-loop-byte : goal.invariant-loop-byte
invariant-loop-byte l = l.out.items ++ joined_from l.state (drop l.byte-index l.text) ≡ joined l.text
