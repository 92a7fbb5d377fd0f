use Rattle.std.specs.Prelude.{codes}
use Rattle.cmd_status.proofs.Remakes.{found_by}
use Rattle.cmd_status.proofs.Unmade.{said_memory, said_unread}
use Rattle.cmd_status.proofs.remaking.run_status.Goals as goal

pub make_text-requires-clause-found : goal.make_text-requires-clause-found
make_text-requires-clause-found g c =
    found_by g.D.Disk.known c.args.terminal.now.outputs.disk c.disk.result.now (codes "config.status") _ _ c.as_slice.result.now c.disk.ensures c.in-Ok-Some.field-0-is c.as_slice.ensures c.in-Ok-Some.ensures.text

pub returns-in-Ok-None-clause-refused : goal.returns-in-Ok-None-clause-refused
returns-in-Ok-None-clause-refused g c = λ two.
    said_unread g.E.Write.contents g.E.Hears.has_failed _ _ _ g.D.Disk.known c.args.terminal.now.outputs.disk c.disk.result.now _ _ _ c.disk.ensures c.in-Ok-None.field-0-is c.in-Ok-None.ensures.text c.tell_unread.ensures.told

pub returns-in-Err-clause-refused : goal.returns-in-Err-clause-refused
returns-in-Err-clause-refused g c = λ two. said_memory g.E.Write.contents g.E.Hears.has_failed _ _ _ _ _ _ c.tell_memory.ensures.told
