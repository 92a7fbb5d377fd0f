use Rattle.std.proofs.Common.{◌≡◌, ◌+◌, ◌-◌, ◌≤◌, length, drop}
use Rattle.m4quote.specs.Scan.{argument}
use Rattle.m4quote.proofs.arguments.argument_len.Given as goal

abbrev pub invariant-loop-len : goal.invariant-loop-len
invariant-loop-len l = record {
  within : l.len ≤ length l.text;
  shallow : l.depth ≤ 63;
  goes_on : argument l.opened 0 l.depth (l.at + l.len) (drop l.len l.text) ≡ argument l.opened 0 0 l.at l.text;
}

abbrev pub decreases-loop-len : goal.decreases-loop-len
decreases-loop-len l = length l.text - l.len
