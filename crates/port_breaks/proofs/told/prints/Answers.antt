use Rattle.port_breaks.proofs.Breaking.{prints_told}
use Rattle.port_breaks.proofs.told.prints.Goals as goal

pub returns-in-Some : goal.returns-in-Some
returns-in-Some c = λ _. prints_told c.args.command.now c.args.given.now _ c.requires c.in-Some.ensures
