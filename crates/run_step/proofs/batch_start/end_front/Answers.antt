use Rattle.run_step.proofs.Turns.{front_more}
use Rattle.run_step.proofs.batch_start.end_front.Goals as goal

pub loop-i-preserved : goal.loop-i-preserved
loop-i-preserved c =
    front_more c.args.entries.now c.loop-i.i c.index-entries-i.result c.loop-i.store c.end_quiet.new.store _ _ c.loop-i-test.true c.index-entries-i.is c.if-entry.false c.in_ok-end_quiet.ensures c.loop-i.invariant
