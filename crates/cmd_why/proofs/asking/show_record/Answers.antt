use Rattle.cmd_why.proofs.Saying.{fault_told, lost_record}
use Rattle.cmd_why.proofs.asking.show_record.Goals as goal

pub returns-in-Ok-Some-clause-refused : goal.returns-in-Ok-Some-clause-refused
returns-in-Ok-Some-clause-refused g c =
    lost_record g.E.Write.contents g.E.Hears.has_failed _ _ c.args.text.now c.put_text.result c.put_text.ensures.refused

pub returns-in-Err-clause-refused : goal.returns-in-Err-clause-refused
returns-in-Err-clause-refused g c = λ two.
    fault_told g.E.Write.contents g.E.Hears.has_failed _ _ c.args.text.now c.in-Err.fault c.in-Err.ensures.refused c.tell_record.ensures.told
