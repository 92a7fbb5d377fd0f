use Rattle.std.proofs.Common.{◌≡◌, ◌+◌, [], ◌∷◌, ◌++◌, Some, true, sym, ap, ◌∙◌, subst, arith}
use Rattle.crew_trait.specs.declared.event.CrewEvent.TheVariants.{Ended}
use Rattle.crew.specs.declared.fused.FuseKind.TheVariants.{End}
use Rattle.crew_trait.specs.declared.reply.Reply.TheVariants.{EndRefused}
use Rattle.crew_trait.specs.Events.{IsSomeBusy, busy}
use Rattle.crew.specs.Fused.{counted, is_due, IsCounted, IsSpent, account_of}
use Rattle.crew.proofs.FusedLemmas.{busy_over, counted_ended, counted_more, end_events, end_failures, some_over, spent_counted, spent_due}
use Rattle.crew.proofs.fused.FusedCrew.next.Goals as goal

pub next-slot-requires-clause-flying : goal.next-slot-requires-clause-flying
next-slot-requires-clause-flying g c =
    some_over c.self.inside.kind c.self.inside.later (g.C.Crew.account c.self.inside.inner)
    (subst (λ f. IsSomeBusy (account_of g.C.Crew.account f).events) (sym c.self.view_is) c.requires.flying)

pub invariant_of-self : goal.invariant_of-self
invariant_of-self g c =
    let due : is_due End c.self.inside.kind c.self.inside.left ≡ true = sym c.is_due.ensures.value ∙ c.if-is_due.true in
    let spent : IsSpent (Some 0) c.is_due.new.left = subst (IsSpent (Some 0)) (sym c.is_due.ensures.left) (spent_due End c.self.inside.kind c.self.inside.left due) in
    counted_ended c.self.inside.left c.is_due.new.left c.self.inside.later (Some 0) (g.C.Crew.account c.self.inside.inner) (g.C.Crew.account c.next-slot.new.self) c.next-slot.result.0 c.next-slot.result.1 _ c.self.invariant spent (omega arith) c.next-slot.ensures.was_busy c.next-slot.ensures.ended c.next-slot.ensures.number

pub returns-then-is_due-clause-ended : goal.returns-then-is_due-clause-ended
returns-then-is_due-clause-ended g c =
    let due : is_due End c.self.inside.kind c.self.inside.left ≡ true = sym c.is_due.ensures.value ∙ c.if-is_due.true in
    end_events c.self.inside.kind c.self.inside.left c.self.inside.later (g.C.Crew.account c.self.inside.inner) (g.C.Crew.account c.next-slot.new.self) c.next-slot.result.0 c.next-slot.result.1 due c.self.invariant.spent c.next-slot.ensures.ended
    ∙ ap (λ f. (account_of g.C.Crew.account f).events ++ Ended c.next-slot.result.0 EndRefused (account_of g.C.Crew.account f).attempts ∷ []) c.self.view_is

pub returns-then-is_due-clause-count : goal.returns-then-is_due-clause-count
returns-then-is_due-clause-count g c =
    let due : is_due End c.self.inside.kind c.self.inside.left ≡ true = sym c.is_due.ensures.value ∙ c.if-is_due.true in
    end_failures c.self.inside.kind c.self.inside.left c.self.inside.later (g.C.Crew.account c.self.inside.inner) (g.C.Crew.account c.next-slot.new.self) c.next-slot.result.0 c.next-slot.result.1 due c.self.invariant.spent c.next-slot.ensures.ended c.next-slot.ensures.count
    ∙ ap (λ f. (account_of g.C.Crew.account f).failures + 1) c.self.view_is

pub invariant_of-self-2 : goal.invariant_of-self-2
invariant_of-self-2 g c =
    let later = c.self.inside.later in
    let spent : IsSpent (counted later) c.is_due.new.left = subst (IsSpent (counted later)) (sym c.is_due.ensures.left) (spent_counted End c.self.inside.kind c.self.inside.left later c.self.invariant.spent) in
    subst (λ l. IsCounted c.is_due.new.left l (g.C.Crew.account c.next-slot.new.self)) (sym c.count.ensures)
    (counted_ended c.self.inside.left c.is_due.new.left later (counted later) (g.C.Crew.account c.self.inside.inner) (g.C.Crew.account c.next-slot.new.self) c.next-slot.result.0 c.next-slot.result.1 _ c.self.invariant spent (counted_more later) c.next-slot.ensures.was_busy c.next-slot.ensures.ended c.next-slot.ensures.number)

pub returns-clause-was_busy : goal.returns-clause-was_busy
returns-clause-was_busy g c =
    ap (λ f. busy c.next-slot.result.0 (account_of g.C.Crew.account f).events) (sym c.self.view_is)
    ∙ busy_over c.self.inside.kind c.self.inside.later (g.C.Crew.account c.self.inside.inner) c.next-slot.result.0
    ∙ c.next-slot.ensures.was_busy
