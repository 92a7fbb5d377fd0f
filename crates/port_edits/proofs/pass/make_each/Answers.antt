use Rattle.std.proofs.Common.{arith}
use Rattle.port_edits.proofs.Steps.{turn, ended}
use Rattle.port_edits.proofs.pass.make_each.Goals as goal

pub loop-i-preserved : goal.loop-i-preserved
loop-i-preserved c = turn c.args.text.now c.args.edits.now c.loop-i.i c.index-edits-i.result _ _ _ _ _ c.loop-i.invariant c.loop-i-test.true c.index-edits-i.is c.in_ok-make.ensures

pub returns : goal.returns
returns c = ended c.args.text.now c.args.edits.now c.loop-i.i _ _ _ c.loop-i.invariant (omega (arith, c.loop-i-test.false))
