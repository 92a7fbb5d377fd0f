use Rattle.std.proofs.Common.{Some, ap, subst, sym}
use Rattle.crew_journal.specs.Texts.{IsCut, nothing}
use Rattle.crew_journal.proofs.memory.MemoryFileAnswerFile.append.Goals as goal

pub returns-then-self-gt0-clause-cut : goal.returns-then-self-gt0-clause-cut
returns-then-self-gt0-clause-cut c = λ off. subst (IsCut (Some c.args.self.now.texts.items) c.args.text.now) (ap Some (sym (c.push.ensures.same off))) nothing

pub returns-clause-cut : goal.returns-clause-cut
returns-clause-cut c = λ _. nothing
