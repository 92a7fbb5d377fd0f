use Rattle.std.proofs.Common.{below_more}
use Rattle.cmd_standin.proofs.BarredLines.{not_here, none_barred}
use Rattle.cmd_standin.proofs.answer.first_barred.Goals as goal

pub loop-line-preserved : goal.loop-line-preserved
loop-line-preserved c = below_more _ _ c.loop-line.invariant (not_here c.args.conftest.now c.as_slice-line-items.result.now c.loop-line.line-index c.is_barred.result c.is_barred.ensures.1 c.if-is_barred.false)

pub returns-clause-accepted : goal.returns-clause-accepted
returns-clause-accepted c =
    none_barred c.args.list.now c.args.conftest.now c.as_slice-line-items.result.now c.in_ok-lines.lines.items c.loop-line.line-index c.in_ok-lines.ensures.value c.as_slice-line-items.ensures.value c.loop-line-test.false c.loop-line.invariant
