use Rattle.std.proofs.Common.{◌≡◌, ◌≤◌, true, refl}
use Rattle.std.specs.Prelude.{slice_index}
use Rattle.port_passes.specs.Rewritten.{is_shown, IsTold}
use Rattle.port_passes.proofs.Steps.{before_next}
use Rattle.port_passes.proofs.output.are_told.Goals as goal

pub loop-at-preserved : goal.loop-at-preserved
loop-at-preserved c = λ k from below shown.
    before_next (λ n. c.args.start ≤ n → is_shown (slice_index c.args.text.now n) ≡ true → IsTold c.args.text.now n) c.loop-at.at k
    (λ less first is. c.loop-at.invariant k first less is)
    (λ first is. c.if-not-is_plain_at.ensures refl is) below from shown
