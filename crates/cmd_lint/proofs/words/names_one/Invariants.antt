use Rattle.std.proofs.Common.{◌≡◌, drop}
use Rattle.cmd_lint.specs.Status.{names_one}
use Rattle.cmd_lint.proofs.words.names_one.Given as goal

abbrev pub invariant-loop-i : goal.invariant-loop-i
invariant-loop-i l = names_one l.words ≡ names_one (drop l.i l.words)
