use Rattle.std.proofs.Common.{◌∙◌}
use Rattle.text_cut.specs.Cuts.{is_blank}
use Rattle.text_cut.proofs.Trims.{trim_by-blank}
use Rattle.text_cut.proofs.trim.Goals as goal

-- the value that `trim` returns
pub returns-clause-value : goal.returns-clause-value
returns-clause-value c = c.trim_with.ensures.value is_blank (λ _ _ called. called) ∙ trim_by-blank c.args.text.now
