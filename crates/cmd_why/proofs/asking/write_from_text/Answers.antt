use Rattle.cmd_why.proofs.Saying.{lost_text}
use Rattle.cmd_why.proofs.asking.write_from_text.Goals as goal

pub returns-in-Ok-Some-clause-refused : goal.returns-in-Ok-Some-clause-refused
returns-in-Ok-Some-clause-refused g c =
    lost_text g.E.Write.contents g.E.Hears.has_failed _ _ c.args.name.now c.args.text.now c.put_text.result c.put_text.ensures.refused
