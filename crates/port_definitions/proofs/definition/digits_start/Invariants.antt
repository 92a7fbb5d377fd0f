use Rattle.std.proofs.Common.{◌≤◌}
use Rattle.port_definitions.proofs.Begins.{AreDigits}
use Rattle.port_definitions.proofs.definition.digits_start.Given as goal

abbrev pub invariant-loop-start : goal.invariant-loop-start
invariant-loop-start l = record {
  order : l.start ≤ l.at;
  digits : AreDigits l.text l.start l.at;
}

abbrev pub decreases-loop-start : goal.decreases-loop-start
decreases-loop-start l = l.start
