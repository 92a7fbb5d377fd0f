use Rattle.std.proofs.Common.{◌≡◌, ◌++◌, drop}
use Rattle.lint_marks.specs.Marks as specs
use Rattle.lint_marks.proofs.mark.marks_of.Given as goal

abbrev pub invariant-loop-i : goal.invariant-loop-i
invariant-loop-i l = l.marks.items ++ specs.marks_from l.scan (drop l.i l.text) ≡ specs.marks_from specs.text_start l.text
