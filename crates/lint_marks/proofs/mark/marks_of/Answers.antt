use Rattle.std.proofs.Common.{sym, ◌∙◌, arith}
use Rattle.lint_marks.proofs.Marking.{marked_more, marked_all}
use Rattle.lint_marks.proofs.mark.marks_of.Goals as goal

pub loop-i-preserved : goal.loop-i-preserved
loop-i-preserved c =
    marked_more c.loop-i.marks.items c.push.new.self.items c.loop-i.scan c.read.new.self c.mark.result c.loop-i.i c.args.text.now (omega (arith, c.loop-i-test.true))
    c.mark.ensures c.in_ok-push.ensures.items c.in_ok-read.ensures
    ∙ c.loop-i.invariant

pub returns : goal.returns
returns c = record { exact = sym (marked_all c.loop-i.marks.items c.loop-i.scan c.loop-i.i c.args.text.now (omega (arith, c.loop-i-test.false))) ∙ c.loop-i.invariant }
