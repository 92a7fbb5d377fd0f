use Rattle.std.proofs.Common.{◌≡◌, drop}
use Rattle.port_rules.specs.Fills.{strip}
use Rattle.port_rules.proofs.fill.strip.Given as goal

abbrev pub invariant-loop-i : goal.invariant-loop-i
invariant-loop-i l = strip (drop l.i l.text) ≡ strip l.text
