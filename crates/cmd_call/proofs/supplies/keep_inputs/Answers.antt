use Rattle.cmd_call.proofs.Guards.{inputs_guarded}
use Rattle.cmd_call.proofs.supplies.keep_inputs.Goals as goal

pub returns-clause-guarded : goal.returns-clause-guarded
returns-clause-guarded g c =
    inputs_guarded g.D.Disk.known c.keep_templates.result c.args.outputs.now c.keep.new.self c.keep_in.new.outputs c.keep_templates.new.outputs c.as_bytes.result.now c.args.srcdir.now c.args.templates.now
    c.as_bytes.ensures.value c.in_ok-keep.ensures.guarded c.in_ok-keep_in.ensures.more c.in_ok-keep_in.ensures.guarded c.keep_templates.ensures.more c.keep_templates.ensures.guarded
