use Rattle.std.proofs.Common.{◌≡◌, ◌+◌, drop}
use Rattle.shell_case.specs.Fronts.{shared}
use Rattle.shell_case.proofs.fronts.shared_len.Given as goal

abbrev pub invariant-loop-i : goal.invariant-loop-i
invariant-loop-i l = l.i + shared (drop l.i l.whole) (drop l.i l.text) ≡ shared l.whole l.text
