use Rattle.std.proofs.Common.{◌≡◌, ◌∙◌, subst}
use Rattle.std.proofs.lemmas.Iterator.{YieldsList}
use Rattle.std.proofs.lemmas.Iterator.Consumers.{map_from_collect}
use Rattle.text_cut.specs.Cuts.{is_blank, fields}
use Rattle.text_cut.proofs.FieldRuns.{YieldsList-from_fields}
use Rattle.text_cut.proofs.FieldSpans.{fields_acc-parts}
use Rattle.text_cut.proofs.Trims.{is_blank-high}
use Rattle.text_cut.proofs.fields.Goals as goal

pub returns : goal.returns
unfolding fields
returns c =
    let all = c.fields_with.ensures.fields is_blank (λ _ _ called. called) ∙ fields_acc-parts is_blank is_blank-high c.args.text.now in
    let run = YieldsList-from_fields (λ _ b r. r ≡ is_blank b) is_blank c.fields_with.result (λ _ _ called. called) in
    record { value = map_from_collect c.collect.result c.collect.ensures.ran (subst (YieldsList _ (λ x. x.now) c.fields_with.result) all run) }
