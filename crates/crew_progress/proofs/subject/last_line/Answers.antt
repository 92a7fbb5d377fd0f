use Rattle.std.proofs.Common.{refl}
use Rattle.crew_progress.proofs.Parts.{after_newline, no_newline}
use Rattle.crew_progress.proofs.subject.last_line.Goals as goal

pub returns-in-Some : goal.returns-in-Some
returns-in-Some c = after_newline c.args.text.now _ c.in-Some.at c.in-Some.ensures refl

pub returns-in-None : goal.returns-in-None
returns-in-None c = no_newline c.args.text.now _ c.in-None.ensures refl
