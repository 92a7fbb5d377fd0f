use Rattle.std.proofs.Common.{◌++◌, codes, ap, ◌∙◌}
use Rattle.conftest_source.specs.Sources.{program_source}
use Rattle.conftest_source.proofs.sources.program_source.Goals as goal

pub returns : goal.returns
unfolding program_source
returns c =
    c.from_vec.ensures ∙ c.in_ok-extend_from_slice-3.ensures.items
    ∙ ap (λ t. t ++ codes "\n  ;\n  return 0;\n}\n") (c.in_ok-extend_from_slice-2.ensures.items
    ∙ ap (λ t. t ++ c.args.body.now) (c.in_ok-extend_from_slice.ensures.items
    ∙ ap (λ t. t ++ codes "\nint\nmain (void)\n{\n") c.in_ok-text.ensures.items))
