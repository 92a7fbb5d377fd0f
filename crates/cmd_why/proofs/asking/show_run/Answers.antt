use Rattle.std.proofs.Common.{subst}
use Rattle.std.specs.Prelude.{codes}
use Rattle.cmd_call.specs.Supplies.{ReadsWhole}
use Rattle.cmd_why.proofs.Explained.{recorded}
use Rattle.cmd_why.proofs.Saying.{no_record_told, record_told}
use Rattle.cmd_why.proofs.asking.show_run.Goals as goal

pub returns-in-Ok-Some-clause-run : goal.returns-in-Ok-Some-clause-run
returns-in-Ok-Some-clause-run g c =
    recorded _ _ _ _ _ _ c.as_slice.ensures
    (subst (λ o. ReadsWhole (g.D.Disk.known c.args.disk.now) (codes "config.status") o) c.in-Ok-Some.field-0-is c.in-Ok-Some.ensures.text) c.show_record.ensures.line

pub returns-in-Ok-Some-clause-refused : goal.returns-in-Ok-Some-clause-refused
returns-in-Ok-Some-clause-refused g c =
    record_told g.E.Write.contents g.E.Hears.has_failed _ _ (g.D.Disk.known c.args.disk.now) _ _ c.show_record.result c.as_slice.ensures
    (subst (λ o. ReadsWhole (g.D.Disk.known c.args.disk.now) (codes "config.status") o) c.in-Ok-Some.field-0-is c.in-Ok-Some.ensures.text) c.show_record.ensures.refused

pub returns-in-Ok-None-clause-refused : goal.returns-in-Ok-None-clause-refused
returns-in-Ok-None-clause-refused g c = λ two.
    no_record_told g.E.Write.contents g.E.Hears.has_failed _ _ (g.D.Disk.known c.args.disk.now)
    (subst (λ o. ReadsWhole (g.D.Disk.known c.args.disk.now) (codes "config.status") o) c.in-Ok-None.field-0-is c.in-Ok-None.ensures.text) c.tell_usage.ensures.told
