use Rattle.std.proofs.Common.{◌≡◌, ◌++◌, map, drop}
use Rattle.cmd_why.specs.Lines as specs
use Rattle.cmd_why.specs.Views.{check_seen, line_seen}
use Rattle.cmd_why.proofs.lines.checks_of.Given as goal

abbrev pub invariant-loop-at : goal.invariant-loop-at
invariant-loop-at l =
    map check_seen l.checks.items ++ specs.checks (map line_seen (drop l.at l.lines)) ≡ specs.checks (map line_seen l.lines)
