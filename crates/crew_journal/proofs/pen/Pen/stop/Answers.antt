use Rattle.crew_journal.proofs.Written.{stopped}
use Rattle.crew_journal.proofs.pen.Pen.stop.Goals as goal

pub returns-clause-pen : goal.returns-clause-pen
returns-clause-pen g c = λ first before records more h. stopped first before records more (g.F.AnswerFile.texts c.args.self.now.file) c.args.self.now.digest c.args.self.now.left c.args.self.now.is_on h
