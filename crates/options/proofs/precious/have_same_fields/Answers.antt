use Rattle.std.proofs.Common.{map, ap, ◌∙◌}
use Rattle.options.proofs.Restorings.{same_texts}
use Rattle.options.proofs.precious.have_same_fields.Goals as goal

pub returns : goal.returns
returns c =
    same_texts c.as_slice.result.now c.as_slice-2.result.now _ _ c.eq.result (ap (map (λ x. x.now)) c.as_slice.ensures.value ∙ c.in_ok-a.ensures.value)
    (ap (map (λ x. x.now)) c.as_slice-2.ensures.value ∙ c.in_ok-b.ensures.value) c.eq.ensures
