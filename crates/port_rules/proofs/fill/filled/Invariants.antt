use Rattle.std.proofs.Common.{◌≡◌, [], drop}
use Rattle.port_rules.specs.Fills.{filled_onto}
use Rattle.port_rules.proofs.fill.filled.Given as goal

abbrev pub invariant-loop-put : goal.invariant-loop-put
invariant-loop-put l = filled_onto l.text l.bounds l.out.items (drop l.put-index l.puts) ≡ filled_onto l.text l.bounds [] l.puts
