use Rattle.std.proofs.Common.{◌≡◌, map, drop}
use Rattle.cmd_why.specs.Shown as specs
use Rattle.cmd_why.specs.Views.{line_seen}
use Rattle.cmd_why.proofs.showing.has_cut.Given as goal

abbrev pub invariant-loop-line : goal.invariant-loop-line
invariant-loop-line l = specs.has_cut l.bytes (map line_seen (drop l.line-index l.lines)) ≡ specs.has_cut 0 (map line_seen l.lines)
