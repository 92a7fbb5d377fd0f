use Rattle.std.proofs.Common.{◌≡◌, false, drop}
use Rattle.ac_statement.specs.Idle.{is_idle_from}
use Rattle.ac_statement.proofs.idle.is_idle_value.Given as goal

abbrev pub invariant-loop-byte : goal.invariant-loop-byte
invariant-loop-byte l = is_idle_from l.in_comment (drop l.byte-index l.value) ≡ is_idle_from false l.value
