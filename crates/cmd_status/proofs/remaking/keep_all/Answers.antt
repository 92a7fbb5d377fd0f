use Rattle.std.proofs.Common.{refl}
use Rattle.std.specs.Prelude.{codes}
use Rattle.cmd_call.specs.Guarded.{inputs_of}
use Rattle.cmd_status.proofs.Remakes.{record_guarded}
use Rattle.cmd_status.proofs.remaking.keep_all.Goals as goal

pub returns-clause-guarded : goal.returns-clause-guarded
returns-clause-guarded g c =
    record_guarded g.D.Disk.known c.keep_inputs.result c.args.outputs.now c.keep.new.self c.keep_inputs.new.outputs (codes "config.status") (inputs_of c.args.srcdir.now c.args.templates.now)
    refl c.in_ok-keep.ensures.guarded c.keep_inputs.ensures.more c.keep_inputs.ensures.guarded
