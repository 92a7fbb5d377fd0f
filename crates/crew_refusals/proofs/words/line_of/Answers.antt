use Rattle.crew_refusals.proofs.Lines.{line_shown}
use Rattle.crew_refusals.proofs.words.line_of.Goals as goal

pub returns-clause-shown : goal.returns-clause-shown
returns-clause-shown c = line_shown c.args.name.now c.args.words.now _ c.type_inv.name c.type_inv.words c.in_ok-line.ensures
