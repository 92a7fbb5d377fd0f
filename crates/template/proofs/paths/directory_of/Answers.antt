use Rattle.template.proofs.Places.{directory_at, no_directory}
use Rattle.template.proofs.paths.directory_of.Goals as goal

pub returns-in-Some : goal.returns-in-Some
returns-in-Some c = directory_at c.args.file.now c.in-Some.at c.in-Some.ensures.0.high c.in-Some.ensures.1 c.in-Some.ensures.0.after

pub returns-in-None : goal.returns-in-None
returns-in-None c = no_directory c.args.file.now c.in-None.ensures
