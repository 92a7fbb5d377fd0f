use Rattle.std.proofs.Common.{◌≡◌, drop}
use Rattle.port_rules.specs.Fills.{fills_onto}
use Rattle.port_rules.proofs.fill.put_fills.Given as goal

abbrev pub invariant-loop-fill : goal.invariant-loop-fill
invariant-loop-fill l = fills_onto l.text l.bounds l.number l.out.items (drop l.fill-index l.fills) ≡ fills_onto l.text l.bounds l.number l.initial.out.items l.fills
