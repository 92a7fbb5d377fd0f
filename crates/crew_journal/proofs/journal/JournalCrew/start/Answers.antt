use Rattle.std.proofs.Common.{◌≡◌, [], ◌∷◌, ◌++◌, subst, sym}
use Rattle.std.specs.Prelude.{IfSome}
use Rattle.crew_trait.specs.declared.event.CrewEvent.TheVariants.{Started}
use Rattle.crew_kept.specs.Taking.{asked_with}
use Rattle.crew_journal.specs.Journal.{IsJournal}
use Rattle.crew_journal.proofs.journal.JournalCrew.start.Goals as goal

pub invariant_of-self-in-Some : goal.invariant_of-self-in-Some
invariant_of-self-in-Some g c =
    let asked : asked_with c.begin.new.self.placed (g.C.Crew.account c.begin.new.self.crew) ≡ asked_with c.self.inside.kept.placed (g.C.Crew.account c.self.inside.kept.crew) ++ Started c.args.slot c.args.job c.in-Some.number ∷ [] =
    subst (λ f. IfSome f (λ number. asked_with c.begin.new.self.placed (g.C.Crew.account c.begin.new.self.crew) ≡ asked_with c.self.inside.kept.placed (g.C.Crew.account c.self.inside.kept.crew) ++ Started c.args.slot c.args.job number ∷ [])) c.in-Some.is c.in-Ok.ensures.asked in
    subst (λ es. IsJournal c.self.inside.first c.self.inside.before es (g.F.AnswerFile.texts c.note_start.new.pen.file) c.note_start.new.pen.digest c.note_start.new.pen.left c.note_start.new.pen.is_on c.note_start.new.flights.items) (sym asked)
    (c.note_start.ensures.note c.self.inside.first c.self.inside.before (asked_with c.self.inside.kept.placed (g.C.Crew.account c.self.inside.kept.crew)) c.args.job c.text_if-text.ensures c.self.invariant)
