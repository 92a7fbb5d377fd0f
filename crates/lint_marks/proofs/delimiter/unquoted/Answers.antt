use Rattle.std.proofs.Common.{arith}
use Rattle.lint_marks.proofs.Kept.{kept_more, kept_stop, kept_all}
use Rattle.lint_marks.proofs.delimiter.unquoted.Goals as goal

pub returns-then-is_after : goal.returns-then-is_after
returns-then-is_after c = kept_stop _ _ _ _ c.loop-i.i c.args.text.now (omega (arith, c.loop-i-test.true)) c.is_after.ensures c.if-is_after.true c.loop-i.invariant

pub loop-i-preserved : goal.loop-i-preserved
loop-i-preserved c =
    kept_more _ _ _ _ _ _ c.loop-i.i c.args.text.now (omega (arith, c.loop-i-test.true)) c.is_after.ensures c.if-is_after.false c.in_ok-push_kept.ensures c.after-part.ensures c.loop-i.invariant

pub returns : goal.returns
returns c = kept_all _ _ _ c.loop-i.i c.args.text.now (omega (arith, c.loop-i-test.false)) c.loop-i.invariant
