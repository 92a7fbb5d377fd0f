use Rattle.std.proofs.Common.{◌≡◌, ◌++◌, ◌≤◌, ℕ, List, map, drop}
use Rattle.cfglog.specs.declared.forms.LineKind.{LineKind}
use Rattle.cmd_why.specs.Lines as specs
use Rattle.cmd_why.specs.Views.{line_seen}
use Rattle.cmd_why.proofs.lines.counted.Given as goal

abbrev pub invariant-loop-line : goal.invariant-loop-line
invariant-loop-line l =
    (map line_seen l.counted.items ++ specs.counted l.child (map {B = LineKind × List ℕ} (λ line. (line.part, line.text.now)) (drop l.line-index l.lines))
    ≡ specs.counted 0 (map {B = LineKind × List ℕ} (λ line. (line.part, line.text.now)) l.lines))
    × (l.child ≤ l.line-index)
