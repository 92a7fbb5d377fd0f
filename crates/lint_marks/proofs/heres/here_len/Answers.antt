use Rattle.std.proofs.Common.{arith}
use Rattle.lint_marks.proofs.HereLines.{here_stop}
use Rattle.lint_marks.proofs.heres.here_len.Goals as goal

pub returns-then-is_delimiter-clause-value : goal.returns-then-is_delimiter-clause-value
returns-then-is_delimiter-clause-value c =
    here_stop c.args.drops_tabs c.args.word.now c.args.text.now c.loop-i.i c.whole_line_len.result c.loop-i.begins c.is_delimiter.result _ (omega (arith, c.loop-i-test.true))
    c.if-begins.true c.is_delimiter.ensures c.if-is_delimiter.true c.whole_line_len.ensures.value c.loop-i.invariant
