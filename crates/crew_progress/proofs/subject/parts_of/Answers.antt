use Rattle.std.proofs.Common.{refl}
use Rattle.crew_progress.proofs.Parts.{after_slash, before_slash, no_slash, without_slash}
use Rattle.crew_progress.proofs.subject.parts_of.Goals as goal

pub returns-in-Some-clause-name : goal.returns-in-Some-clause-name
returns-in-Some-clause-name c = after_slash c.args.path.now _ c.in-Some.at c.in-Some.ensures refl

pub returns-in-Some-clause-directory : goal.returns-in-Some-clause-directory
returns-in-Some-clause-directory c = before_slash c.args.path.now _ c.in-Some.at c.in-Some.ensures refl

pub returns-in-None-clause-name : goal.returns-in-None-clause-name
returns-in-None-clause-name c = no_slash c.args.path.now _ c.in-None.ensures refl

pub returns-in-None-clause-directory : goal.returns-in-None-clause-directory
returns-in-None-clause-directory c = without_slash c.args.path.now _ c.in-None.ensures refl
