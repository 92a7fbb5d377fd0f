use Rattle.std.proofs.Common.{◌≡◌, ◌+◌, true, drop}
use Rattle.lint_marks.specs.Heres as specs
use Rattle.lint_marks.proofs.heres.here_len.Given as goal

abbrev pub invariant-loop-i : goal.invariant-loop-i
invariant-loop-i l = l.i + specs.here_len l.drops_tabs l.word l.begins (drop l.i l.text) ≡ specs.here_len l.drops_tabs l.word true l.text
