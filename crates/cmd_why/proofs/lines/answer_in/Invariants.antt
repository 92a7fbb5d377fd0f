use Rattle.std.proofs.Common.{◌≡◌, ◌≤◌, map, drop}
use Rattle.cmd_why.specs.Lines as specs
use Rattle.cmd_why.specs.Views.{line_seen}
use Rattle.cmd_why.proofs.lines.answer_in.Given as goal

abbrev pub invariant-loop-line : goal.invariant-loop-line
invariant-loop-line l =
    (specs.answer_in l.inner (map line_seen (drop l.line-index l.rest)) ≡ specs.answer_in 0 (map line_seen l.rest)) × (l.inner ≤ l.line-index)
