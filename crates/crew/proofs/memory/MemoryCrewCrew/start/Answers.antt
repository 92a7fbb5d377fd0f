use Rattle.std.proofs.Common.{◌++◌, [], ◌∷◌, refl, sym, ap, ◌∙◌}
use Rattle.crew.specs.contracts.memory.MemoryCrew.{the_view}
use Rattle.crew.specs.Child.{Child}
use Rattle.crew_trait.specs.Events.{busy}
use Rattle.crew.specs.Scripted.{after_start}
use Rattle.crew.proofs.ReadyLemmas.{ready_start}
use Rattle.crew.proofs.ScriptLemmas.{start_past, start_refused, start_taken, not_refused}
use Rattle.crew.proofs.memory.MemoryCrewCrew.start.Goals as goal

pub returns-in_default-clause-after : goal.returns-in_default-clause-after
returns-in_default-clause-after c =
    start_past c.args.slot c.args.job (the_view c.self.inside) _ c.in_default.ensures.pair.0 refl refl c.refusal.ensures refl c.in_default.ensures.pair.1 refl refl
    ∙ ap (after_start c.args.slot c.args.job) c.self.view_is

pub returns-then-is_start_refused-clause-after : goal.returns-then-is_start_refused-clause-after
returns-then-is_start_refused-clause-after c =
    start_refused c.args.slot c.args.job (the_view c.self.inside) _ c.in-Some.reply _ c.in-Some.ensures.pair (sym c.is_start_refused.ensures ∙ c.if-is_start_refused.true) refl refl c.refusal-then-is_start_refused.ensures c.put.ensures.items refl refl refl
    ∙ ap (after_start c.args.slot c.args.job) c.self.view_is

pub invariant_of-self-2 : goal.invariant_of-self-2
invariant_of-self-2 c =
    let child : Child = record { slot = c.args.slot; reply = c.in-Some.reply } in
    let free = ap (λ m. busy c.args.slot m.account.events) c.self.view_is ∙ c.requires.free in
    let taken = not_refused c.in-Some.reply (sym c.is_start_refused.ensures ∙ c.if-is_start_refused.false) in
    let children = c.put-3.ensures.items ∙ ap (λ k. c.self.inside.children.items ++ k ∷ []) c.new.ensures in
    (c.in-Some.ensures.copies, ready_start c.self.invariant.1 _ _ _ _ _ _ _ child _ c.args.job _ free taken c.in-Some.ensures.len children c.put-4.ensures.items c.put-2.ensures.items c.put-3.ensures.room c.put-4.ensures.room c.put-2.ensures.room)

pub returns-clause-after : goal.returns-clause-after
returns-clause-after c =
    let children = c.put-3.ensures.items ∙ ap (λ k. c.self.inside.children.items ++ k ∷ []) c.new.ensures in
    start_taken c.args.slot c.args.job (the_view c.self.inside) _ c.in-Some.reply _ c.in-Some.ensures.pair (sym c.is_start_refused.ensures ∙ c.if-is_start_refused.false) c.put-4.ensures.items refl refl c.put-2.ensures.items refl children refl
    ∙ ap (after_start c.args.slot c.args.job) c.self.view_is
