use Rattle.std.proofs.Common.{subst}
use Rattle.cmd_call.specs.Supplies.{ReadsWhole}
use Rattle.cmd_why.proofs.Saying.{text_told}
use Rattle.cmd_why.proofs.asking.write_from_log.Goals as goal

pub returns-in-Ok-Some-clause-refused : goal.returns-in-Ok-Some-clause-refused
returns-in-Ok-Some-clause-refused g c =
    text_told g.E.Write.contents g.E.Hears.has_failed _ _ (g.D.Disk.known c.args.disk.now) c.args.name.now _ _ c.write_from_seen.result c.as_slice.ensures
    (subst (λ o. ReadsWhole (g.D.Disk.known c.args.disk.now) c.args.name.now o) c.in-Ok-Some.field-0-is c.in-Ok-Some.ensures.text) c.write_from_seen.ensures.refused
