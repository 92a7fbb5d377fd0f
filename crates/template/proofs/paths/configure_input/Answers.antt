use Rattle.std.proofs.Common.{◌++◌, codes, ap, ◌∙◌}
use Rattle.template.specs.Place.{configure_input_of}
use Rattle.template.proofs.paths.configure_input.Goals as goal

pub returns : goal.returns
unfolding configure_input_of
returns c =
    c.from_vec.ensures ∙ c.in_ok-extend_from_slice-3.ensures.items
    ∙ ap (λ t. t ++ codes " by configure.") (c.in_ok-extend_from_slice-2.ensures.items
    ∙ ap (λ t. t ++ c.base_name.result.now) (c.in_ok-extend_from_slice.ensures.items
    ∙ ap (λ t. t ++ codes ".  Generated from ") c.in_ok-text.ensures.items)
    ∙ ap (λ t. c.args.file.now ++ codes ".  Generated from " ++ t) c.base_name.ensures)
