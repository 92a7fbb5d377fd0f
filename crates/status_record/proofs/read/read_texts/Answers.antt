use Rattle.status_record.proofs.Loops.{several_more, several_fails, several_other, several_end}
use Rattle.status_record.proofs.read.read_texts.Goals as goal

pub returns-in_default-clause-reads : goal.returns-in_default-clause-reads
returns-in_default-clause-reads c = several_other _ _ _ _ _ _ _ c.loop-i.invariant _ _ c.loop-i-test.true c.after_prefix.ensures c.in_default.is

pub returns-in_err-add_arg-clause-reads : goal.returns-in_err-add_arg-clause-reads
returns-in_err-add_arg-clause-reads c =
    several_fails _ _ _ _ _ _ _ c.loop-i.invariant _ _ c.loop-i-test.true c.after_prefix.ensures _ c.from_residual.result c.in_err-add_arg.field-0.0 _ c.in-Some.is c.in_err-add_arg.ensures c.from_residual.ensures.1

pub loop-i-preserved : goal.loop-i-preserved
loop-i-preserved c = several_more _ _ _ _ _ _ _ c.loop-i.invariant _ _ c.loop-i-test.true c.after_prefix.ensures _ _ c.in-Some.is c.in_ok-add_arg.ensures

pub returns-clause-reads : goal.returns-clause-reads
returns-clause-reads c = several_end _ _ _ _ _ _ _ c.loop-i.invariant c.loop-i-test.false (c.loop-i.auto.i-end c.requires)
