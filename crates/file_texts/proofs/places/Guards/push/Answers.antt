use Rattle.std.proofs.Common.{◌∙◌}
use Rattle.file_texts.proofs.Keyed.{guard_comes}
use Rattle.file_texts.proofs.places.Guards.push.Goals as goal

pub invariant_of-self-2 : goal.invariant_of-self-2
invariant_of-self-2 c =
    guard_comes _ _ _ _ _ _ _ _ _ _ _ c.self.invariant c.as_slice-2.ensures (c.as_slice.ensures ∙ c.in_ok-key.ensures) c.in_ok-set-2.ensures.ok c.in_ok-set.ensures.ok c.in_ok-push.ensures.items
