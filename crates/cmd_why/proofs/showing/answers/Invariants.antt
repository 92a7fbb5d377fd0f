use Rattle.std.proofs.Common.{◌≡◌, ◌+◌, ◌≤◌, map, drop}
use Rattle.cmd_why.specs.Shown as specs
use Rattle.cmd_why.specs.Views.{line_seen}
use Rattle.cmd_why.proofs.showing.answers.Given as goal

abbrev pub invariant-loop-line : goal.invariant-loop-line
invariant-loop-line l =
    (specs.answers (map line_seen (drop l.line-index l.lines)) + l.count ≡ specs.answers (map line_seen l.lines)) × (l.count ≤ l.line-index)
