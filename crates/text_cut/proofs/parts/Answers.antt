use Rattle.std.proofs.Common.{◌∙◌}
use Rattle.std.proofs.lemmas.Iterator.Consumers.{YieldsList-from_first, map_from_collect}
use Rattle.text_cut.proofs.Splits.{split_at-parts}
use Rattle.text_cut.proofs.parts.Goals as goal

pub returns : goal.returns
returns c =
    let all = c.split_str.ensures.value ∙ split_at-parts c.args.text.now c.args.separator in
    record { value = map_from_collect c.collect.result c.collect.ensures.ran (YieldsList-from_first (λ x. x.now) (λ rest. rest) _ all) }
