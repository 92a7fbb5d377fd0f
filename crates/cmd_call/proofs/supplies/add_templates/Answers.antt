use Rattle.std.proofs.Common.{◌++◌, take, arith}
use Rattle.cmd_call.proofs.Templates.{up_to, whole}
use Rattle.cmd_call.proofs.supplies.add_templates.Goals as goal

pub outputs-preserved : goal.outputs-preserved
outputs-preserved g c = λ before a.
    up_to (g.D.Disk.known c.args.disk.now) c.args.srcdir.now before c.args.outputs.now c.outputs.output-index c.output-item.result _ _ c.outputs-test.true c.output-item.is
    (c.in_ok-add_needed.ensures (before ++ take c.outputs.output-index c.args.outputs.now) (c.outputs.invariant before a))

pub returns : goal.returns
returns g c = λ before a. whole (g.D.Disk.known c.args.disk.now) c.args.srcdir.now before c.args.outputs.now c.outputs.output-index _ _ (omega (arith, c.outputs-test.false)) (c.outputs.invariant before a)
