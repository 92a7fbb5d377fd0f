use Rattle.cmd_call.proofs.Templates.{needed_before, needed_next}
use Rattle.cmd_call.proofs.supplies.add_needed.Goals as goal

pub returns-then-has : goal.returns-then-has
returns-then-has g c =
    needed_before (g.D.Disk.known c.args.disk.now) c.args.srcdir.now _ c.args.output.now c.args.names.now c.args.templates.now.items _ c.as_slice-name.ensures c.has.ensures c.if-has.true

pub returns : goal.returns
returns g c =
    needed_next _ (g.D.Disk.known c.args.disk.now) c.args.srcdir.now _ c.args.output.now c.args.names.now _ c.args.templates.now.items _ _ c.as_slice-name.ensures c.in_ok-add_template.ensures c.set.ensures.ok
