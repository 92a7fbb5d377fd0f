use Rattle.std.proofs.Common.{◌≡◌, ◌≤◌, ◌+◌, drop}
use Rattle.ac_statement.specs.Inside.{closes_at_end}
use Rattle.port_idioms.proofs.asked.closes_at_end.Given as goal

abbrev pub invariant-loop-byte : goal.invariant-loop-byte
invariant-loop-byte l = (l.depth ≤ l.byte-index + 1) × (closes_at_end l.depth (drop l.byte-index l.text) ≡ closes_at_end 1 l.text)
