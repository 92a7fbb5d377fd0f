use Rattle.std.proofs.Common.{refl}
use Rattle.crew_kept.proofs.Fresh.{kept_again}
use Rattle.crew_kept.proofs.kept.Kept.supply.Goals as goal

pub invariant_of-self : goal.invariant_of-self
invariant_of-self g c = (
  kept_again (g.C.Crew.account c.self.inside.crew) c.self.inside.supply.records c.new.result.records c.self.inside.placed.items c.self.inside.waiting.items c.self.inside.linked
      c.self.inside.supply.state c.new.result.state c.self.inside.events c.self.inside.attempts c.self.invariant.0
      (c.if-not-is_fresh.ensures.placed refl) (c.if-not-is_fresh.ensures.waiting refl) (c.if-not-is_fresh.ensures.linked refl) (c.if-not-is_fresh.ensures.events refl) (c.if-not-is_fresh.ensures.attempts refl) c.new.ensures.state,
  c.self.invariant.1,
)
