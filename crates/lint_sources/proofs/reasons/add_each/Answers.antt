use Rattle.std.proofs.Common.{◌∙◌}
use Rattle.std.proofs.Math.Seq.{map-set_same}
use Rattle.lint_sources.specs.Listed.{unworded}
use Rattle.lint_sources.proofs.reasons.add_each.Goals as goal

pub loop-error-preserved : goal.loop-error-preserved
loop-error-preserved c = map-set_same unworded c.loop-error.errors c.loop-error.error-index _ c.error-item.result c.in_ok-add_reason.ensures ∙ c.loop-error.invariant
