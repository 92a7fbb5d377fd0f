use Rattle.std.proofs.Common.{map, drop, ap, sym, ◌∙◌}
use Rattle.std.proofs.lemmas.List.{take_rest}
use Rattle.text_cut.specs.Cuts.{parts}
use Rattle.lint_macros.proofs.Indexed.{made}
use Rattle.lint_macros.proofs.index.Index.new.Goals as goal

pub invariant_of-result : goal.invariant_of-result
invariant_of-result c = record {
  exact = made _ _ _ _ _ _ c.new-names.ensures.empty
      (ap (map (λ r. r.now)) (c.in_ok-rest.ensures.items ∙ take_rest c.as_slice-2.result.now c.in_ok-count.count ∙ ap (drop c.in_ok-count.count) (c.as_slice-2.ensures.value ∙ sym c.as_slice.ensures.value)))
      (ap (map (λ r. r.now)) c.as_slice.ensures.value ∙ c.in_ok-rows.ensures.value ∙ ap (parts 126) c.table.ensures)
      c.in_ok-count.ensures.said;
}
