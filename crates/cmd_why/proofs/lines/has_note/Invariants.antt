use Rattle.std.proofs.Common.{◌≡◌, map, drop}
use Rattle.cmd_why.specs.Lines as specs
use Rattle.cmd_why.specs.Views.{line_seen}
use Rattle.cmd_why.proofs.lines.has_note.Given as goal

abbrev pub invariant-loop-line : goal.invariant-loop-line
invariant-loop-line l = specs.has_note (map line_seen (drop l.line-index l.lines)) ≡ specs.has_note (map line_seen l.lines)
