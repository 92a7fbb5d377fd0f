use Rattle.std.proofs.Common.{refl, ◌<◌, ◌≤◌}
use Rattle.std.specs.Prelude.{◌⊎◌}
use Rattle.port_definitions.specs.Defined.{IsWordAt}
use Rattle.port_definitions.specs.Unused.{IsRemark}
use Rattle.port_definitions.proofs.Remarks.{before_next}
use Rattle.port_definitions.proofs.unused.is_uncalled.Goals as goal

pub loop-at-preserved : goal.loop-at-preserved
loop-at-preserved c k below word =
    before_next (λ n. IsWordAt c.args.text.now n c.args.name.now → ((c.args.start ≤ n) × (n < c.args.end)) ⊎ IsRemark c.args.text.now c.args.end n)
    c.loop-at.at k (c.loop-at.invariant k) (c.if-is_called_at.ensures refl) below word
