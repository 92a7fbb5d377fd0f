use Rattle.cmd_status.proofs.Unmade.{said_record}
use Rattle.cmd_status.proofs.remaking.make_text.Goals as goal

pub make_record-requires-clause-found : goal.make_record-requires-clause-found
make_record-requires-clause-found g c = record { text = c.args.text.now; found = c.requires.found; is = c.in-Ok.ensures.exact }

pub returns-in-Err-clause-refused : goal.returns-in-Err-clause-refused
returns-in-Err-clause-refused g c = λ two.
    said_record g.E.Write.contents g.E.Hears.has_failed _ _ c.args.terminal.now.is_asked _ _ _ _ c.args.text.now c.in-Err.fault c.from-fault.result c.requires.found c.in-Err.ensures.exact c.from-fault.ensures
    c.why_of-why.ensures.asked c.tell_remake.ensures.told
