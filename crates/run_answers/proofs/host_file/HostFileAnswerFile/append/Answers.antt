use Rattle.crew_journal.specs.Texts.{nothing}
use Rattle.run_answers.proofs.host_file.HostFileAnswerFile.append.Goals as goal

pub returns-in-Some-clause-cut : goal.returns-in-Some-clause-cut
returns-in-Some-clause-cut g c = λ _. nothing

pub returns-in-None-clause-cut : goal.returns-in-None-clause-cut
returns-in-None-clause-cut g c = λ _. nothing
