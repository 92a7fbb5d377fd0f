use Rattle.std.proofs.Common.{subst, sym}
use Rattle.crew_kept.specs.Taking.{account_with, asked_with}
use Rattle.crew_journal.specs.Journal.{IsJournal}
use Rattle.crew_journal.proofs.journal.JournalCrew.next.Goals as goal

pub invariant_of-self-2 : goal.invariant_of-self-2
invariant_of-self-2 g c =
    subst (λ es. IsJournal c.self.inside.first c.self.inside.before es (g.F.AnswerFile.texts c.note_end.new.pen.file) c.note_end.new.pen.digest c.note_end.new.pen.left c.note_end.new.pen.is_on c.note_end.new.flights.items) (sym (c.end-slot.ensures.asked c.if-is_taken.false))
    (c.note_end.ensures c.self.inside.first c.self.inside.before (account_with c.self.inside.kept.placed (g.C.Crew.account c.self.inside.kept.crew)).attempts (asked_with c.self.inside.kept.placed (g.C.Crew.account c.self.inside.kept.crew)) c.self.invariant)
