use Rattle.std.proofs.Common.{refl}
use Rattle.cmd_configure.proofs.Cases.{has_no_memory_again, has_no_record, line_written}
use Rattle.std.specs.Prelude.{codes}
use Rattle.cmd_status.proofs.Remakes.{found_by}
use Rattle.cmd_status.proofs.Happenings.{only_said}
use Rattle.cmd_configure.proofs.rechecking.run_recheck.Goals as goal

pub run_again-happened-requires-clause-found : goal.run_again-happened-requires-clause-found
run_again-happened-requires-clause-found g c =
    found_by g.D.Disk.known c.args.terminal.now.outputs.disk c.disk.result.now (codes "config.status") _ _ c.as_slice-text.result.now c.disk.ensures c.in-Ok-Some.field-0-is c.as_slice-text.ensures c.in-Ok-Some.ensures.text

pub returns-in-Ok-None-clause-ended : goal.returns-in-Ok-None-clause-ended
returns-in-Ok-None-clause-ended g c = (
  _,
  has_no_record g.D.Disk.known c.args.terminal.now.outputs.disk c.disk.result.now c.args.terminal.now.env.now _ _ c.disk.ensures c.in-Ok-None.field-0-is c.in-Ok-None.ensures.text,
  only_said g.W.Write.contents g.W.Hears.has_failed g.E.Write.contents g.E.Hears.has_failed _ _ _ c.args.terminal.now.is_asked _ _ refl c.tell_unread.ensures.told,
)

pub returns-in-Err-clause-ended : goal.returns-in-Err-clause-ended
returns-in-Err-clause-ended g c = (
  _,
  has_no_memory_again c.args.terminal.now.env.now _ _ _ _ c.no_memory.result c.no_memory.ensures.happened refl refl,
  line_written g.W.Write.contents g.W.Hears.has_failed g.E.Write.contents g.E.Hears.has_failed _ _ _ c.args.terminal.now.is_asked c.no_memory.result _ c.no_memory.ensures.happened c.no_memory.ensures.told,
)
