use Rattle.cmd_call.proofs.Templates.{both}
use Rattle.cmd_call.proofs.supplies.read_templates.Goals as goal

pub returns : goal.returns
returns g c =
    both (g.D.Disk.known c.args.disk.now) c.args.srcdir.now c.args.outputs.now c.args.headers.now _ _ _ _ _ _ c.new-names.ensures c.new-templates.ensures.items c.in_ok-add_templates.ensures c.in_ok-add_templates-2.ensures
