use Rattle.std.proofs.Common.{arith}
use Rattle.lint_sources.proofs.Lost.{lost_all, lost_more}
use Rattle.lint_sources.proofs.templates.add_lost.Goals as goal

pub outputs-preserved : goal.outputs-preserved
outputs-preserved c =
    lost_more c.args.templates.now c.args.outputs.now c.outputs.output-index c.output-item.result _ _ _ c.outputs-test.true c.output-item.is c.outputs.invariant c.in_ok-add_if_lost.ensures

pub returns : goal.returns
returns c = lost_all c.args.templates.now c.args.outputs.now c.outputs.output-index _ _ (omega (arith, c.outputs-test.false)) c.outputs.invariant
