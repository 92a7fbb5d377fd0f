use Rattle.std.proofs.Common.{◌≡◌, subst}
use Rattle.template.specs.Fill.{filled}
use Rattle.template.specs.Pieces.{FillerState}
use Rattle.template.proofs.Fronts.{held-filled}
use Rattle.template.proofs.pieces.Filler.finish.Goals as goal

pub returns-clause-filled : goal.returns-clause-filled
returns-clause-filled c =
    subst (λ (f : FillerState). c.self.inside.held.items ≡ filled f.entries f.held) c.self.view_is
    (held-filled c.self.inside.table c.longest_key.ensures.shell_names c.self.inside.held.items c.self.invariant)
