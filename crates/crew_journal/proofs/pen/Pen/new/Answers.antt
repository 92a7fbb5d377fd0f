use Rattle.std.proofs.Common.{◌-◌, arith}
use Rattle.crew_journal.proofs.Written.{begun}
use Rattle.crew_journal.proofs.pen.Pen.new.Goals as goal

pub returns-clause-pen : goal.returns-clause-pen
returns-clause-pen g c = begun c.args.digest c.args.used (67108864 - c.args.used) (g.F.AnswerFile.texts c.args.file) c.requires (omega (arith, c.if-used-gt-LARGEST.false))
