use Rattle.std.proofs.Common.{◌≡◌, ◌+◌, drop}
use Rattle.shell_case.specs.Parts.{unset_count}
use Rattle.shell_case.proofs.places.unset_count.Given as goal

abbrev pub invariant-loop-i : goal.invariant-loop-i
invariant-loop-i l = l.i + unset_count (drop l.i l.flags) ≡ unset_count l.flags
