use Rattle.std.proofs.Common.{◌≡◌, drop, None}
use Rattle.port_rules.specs.Fills.{slot_at}
use Rattle.port_rules.proofs.fill.slot_part.Given as goal

abbrev pub invariant-loop-bound : goal.invariant-loop-bound
invariant-loop-bound l = slot_at l.last (drop l.bound-index l.bounds) l.slot l.left ≡ slot_at None l.bounds l.slot l.number
