use Rattle.crew_progress.proofs.Cutting.{put_none, put_more, put_all}
use Rattle.crew_progress.proofs.screen.put.Goals as goal

pub loop-byte-init : goal.loop-byte-init
loop-byte-init g c = λ text h. put_none g.row.N _ _ text c.args.more.now h

pub loop-byte-preserved : goal.loop-byte-preserved
loop-byte-preserved g c = λ text h. put_more g.row.N _ _ text _ _ c.loop-byte-test.true (c.put_byte.ensures _ (c.loop-byte.invariant text h))

pub returns : goal.returns
returns g c = λ text h. put_all g.row.N _ _ text _ _ c.loop-byte-test.false (c.loop-byte.invariant text h)
