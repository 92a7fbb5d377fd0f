use Rattle.crew_jobs.specs.Probe.{define_line}
use Rattle.conftest.proofs.Turns.{append_image}
use Rattle.conftest.proofs.text.put_defines.Goals as goal

pub loop-i-preserved : goal.loop-i-preserved
loop-i-preserved c = append_image define_line c.args.text.now.items c.loop-i.text.items c.put_define.new.text.items c.args.defs.now c.loop-i.i _ c.at.ensures.entry c.loop-i.invariant c.in_ok-put_define.ensures
