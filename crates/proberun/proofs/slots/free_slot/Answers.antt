use Rattle.std.proofs.Common.{◌≡◌, ℕ, ◌∙◌, ap, Some, None, below_more}
use Rattle.std.specs.Prelude.{slice_get}
use Rattle.std.proofs.lemmas.Option.{slice_get-get_or}
use Rattle.proberun.proofs.slots.free_slot.Goals as goal

pub loop-s-preserved : goal.loop-s-preserved
loop-s-preserved c =
    below_more (λ s. (k : ℕ) × (slice_get c.args.slots.now s ≡ Some (Some k))) c.loop-s.s c.loop-s.invariant
    (c.in-Some.field-0, slice_get-get_or _ _ None c.loop-s-test.true ∙ ap Some c.in-Some.is)
