use Rattle.std.proofs.Common.{◌≡◌, ◌++◌, drop}
use Rattle.lint_marks.specs.Delimiters as specs
use Rattle.lint_marks.proofs.delimiter.unquoted.Given as goal

abbrev pub invariant-loop-i : goal.invariant-loop-i
invariant-loop-i l = l.word.items ++ specs.delimiter_in l.part (drop l.i l.text) ≡ specs.unquoted l.text
