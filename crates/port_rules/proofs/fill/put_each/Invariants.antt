use Rattle.std.proofs.Common.{◌≡◌, ◌≤◌, drop}
use Rattle.port_rules.specs.Fills.{each_onto}
use Rattle.port_rules.proofs.fill.put_each.Given as goal

abbrev pub invariant-loop-bound : goal.invariant-loop-bound
invariant-loop-bound l = (l.number ≤ l.bound-index) × (each_onto l.text l.bounds l.slot l.fills l.number l.out.items (drop l.bound-index l.bounds) ≡ each_onto l.text l.bounds l.slot l.fills 0 l.initial.out.items l.bounds)
