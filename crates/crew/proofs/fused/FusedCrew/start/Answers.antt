use Rattle.std.proofs.Common.{◌≡◌, ◌^◌, ◌<◌, false, sym, ap, ◌∙◌, subst, arith}
use Rattle.crew_trait.specs.Events.{Account, busy}
use Rattle.crew.specs.Fused.{counted, IsCounted, IsSpent, account_of}
use Rattle.crew.specs.declared.fused.FuseKind.TheVariants.{Start}
use Rattle.crew.proofs.FusedLemmas.{attempts_over, busy_over, counted_started, spent_counted}
use Rattle.crew.proofs.fused.FusedCrew.start.Goals as goal

pub start-requires-clause-free : goal.start-requires-clause-free
start-requires-clause-free g c =
    let free : busy c.args.slot (account_of g.C.Crew.account c.args.self.now).events ≡ false = c.requires.free in
    sym (busy_over c.self.inside.kind c.self.inside.later (g.C.Crew.account c.self.inside.inner) c.args.slot)
    ∙ ap (λ f. busy c.args.slot (account_of g.C.Crew.account f).events) c.self.view_is
    ∙ free

pub invariant_of-self-2 : goal.invariant_of-self-2
invariant_of-self-2 g c =
    let a : Account = g.C.Crew.account c.self.inside.inner in
    let few : a.attempts < 2 ^ 62 = omega (arith, attempts_over c.self.inside.kind c.self.inside.later a, ap (λ f. (account_of g.C.Crew.account f).attempts) c.self.view_is, c.requires.attempts) in
    let free : busy c.args.slot a.events ≡ false = sym (busy_over c.self.inside.kind c.self.inside.later a c.args.slot) ∙ ap (λ f. busy c.args.slot (account_of g.C.Crew.account f).events) c.self.view_is ∙ c.requires.free in
    let spent : IsSpent (counted c.self.inside.later) c.is_due.new.left = subst (IsSpent (counted c.self.inside.later)) (sym c.is_due.ensures.left) (spent_counted Start c.self.inside.kind c.self.inside.left c.self.inside.later c.self.invariant.spent) in
    subst (λ later. IsCounted c.is_due.new.left later (g.C.Crew.account c.start.new.self)) (sym c.count.ensures)
    (counted_started c.self.inside.left c.is_due.new.left c.self.inside.later a (g.C.Crew.account c.start.new.self) c.args.slot c.args.job _ c.self.invariant spent few free c.in-Ok.ensures.taken c.in-Ok.ensures.number)
