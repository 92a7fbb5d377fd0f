use Rattle.std.proofs.Common.{◌≡◌, true, length, ◌≤◌, ◌+◌, subst, sym}
use Rattle.template.specs.Pieces.{FillerState, MayBeHeld, may_be_held}
use Rattle.template.specs.Keys.{longest_of}
use Rattle.template.proofs.Fronts.{MayBeHeld-is, held-length}
use Rattle.template.proofs.pieces.Filler.feed.Goals as goal

pub returns-in_err-given-clause-held : goal.returns-in_err-given-clause-held
returns-in_err-given-clause-held c =
    subst (λ (f : FillerState). MayBeHeld f.entries f.held) c.self.view_is (MayBeHeld-is c.self.inside.table c.self.inside.held.items c.self.invariant)

pub returns-in_err-given-clause-bound : goal.returns-in_err-given-clause-bound
returns-in_err-given-clause-bound c =
    subst (λ (f : FillerState). length f.held ≤ longest_of f.entries + 1) c.self.view_is (held-length c.self.inside.table c.self.inside.held.items c.self.invariant)

pub returns-clause-held : goal.returns-clause-held
returns-clause-held c =
    MayBeHeld-is c.self.inside.table c.in_ok-given.later.items (subst (λ (f : FillerState). may_be_held f.entries c.in_ok-given.later.items ≡ true) (sym c.self.view_is) c.in_ok-given.ensures.may)

pub returns-clause-bound : goal.returns-clause-bound
returns-clause-bound c =
    held-length c.self.inside.table c.in_ok-given.later.items (subst (λ (f : FillerState). may_be_held f.entries c.in_ok-given.later.items ≡ true) (sym c.self.view_is) c.in_ok-given.ensures.may)
