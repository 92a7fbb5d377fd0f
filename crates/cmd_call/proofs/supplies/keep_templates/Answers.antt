use Rattle.std.proofs.Common.{arith, subst}
use Rattle.file_texts.proofs.Unused.{guards_none, guards_then}
use Rattle.cmd_call.proofs.Guards.{all_guarded, next_guarded, none_guarded, still_guarded}
use Rattle.cmd_call.specs.Guarded.{IsGuardedNow}
use Rattle.cmd_call.specs.Supplies.{path_of}
use Rattle.cmd_call.proofs.supplies.keep_templates.Goals as goal

pub templates-init : goal.templates-init
templates-init g c = record { more = guards_none c.args.outputs.now; guarded = none_guarded _ _ }

pub templates-preserved : goal.templates-preserved
templates-preserved g c = record {
  more = guards_then c.args.outputs.now c.templates.outputs c.keep_in.new.outputs c.templates.invariant.more c.in_ok-keep_in.ensures.more;
  guarded = next_guarded g.D.Disk.known c.keep_in.new.outputs c.args.srcdir.now c.args.templates.now c.templates.template-index c.template-item.result c.templates-test.true c.template-item.is
      (still_guarded g.D.Disk.known c.templates.outputs c.keep_in.new.outputs _ c.in_ok-keep_in.ensures.more c.templates.invariant.guarded)
      (subst (λ n. IsGuardedNow g.D.Disk.known c.keep_in.new.outputs (path_of c.args.srcdir.now n)) c.as_slice.ensures c.in_ok-keep_in.ensures.guarded);
}

pub returns-clause-guarded : goal.returns-clause-guarded
returns-clause-guarded g c = all_guarded g.D.Disk.known c.templates.outputs c.args.srcdir.now c.args.templates.now c.templates.template-index (omega (arith, c.templates-test.false)) c.templates.invariant.guarded
