use Rattle.std.proofs.Common.{◌≡◌, ◌-◌, ◌≤◌, length, drop}
use Rattle.shellword.specs.Scan.{scan}
use Rattle.shellword.proofs.Runs.{with_parts}
use Rattle.shellword.proofs.run.read_run.Given as goal

abbrev pub invariant-loop-at : goal.invariant-loop-at
invariant-loop-at l = record {
  begun : l.fn.start ≤ l.at;
  within : l.at ≤ length l.text;
  goes_on : with_parts l.parts.items (scan 0 l.context l.at (drop l.at l.text)) ≡ scan 0 l.fn.first l.fn.start (drop l.fn.start l.text);
}

abbrev pub decreases-loop-at : goal.decreases-loop-at
decreases-loop-at l = length l.text - l.at
