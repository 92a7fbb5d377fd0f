use Rattle.std.proofs.Common.{◌≡◌, map, drop}
use Rattle.cmd_why.specs.Doubts as specs
use Rattle.cmd_why.specs.Views.{line_seen}
use Rattle.cmd_why.proofs.doubts.has_odd.Given as goal

abbrev pub invariant-loop-line : goal.invariant-loop-line
invariant-loop-line l = specs.has_odd (map line_seen (drop l.line-index l.lines)) ≡ specs.has_odd (map line_seen l.lines)
