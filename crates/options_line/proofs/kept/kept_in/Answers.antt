use Rattle.std.proofs.Common.{sym, ◌∙◌}
use Rattle.options_line.proofs.Cuttings.{kept_more, kept_end}
use Rattle.options_line.proofs.kept.kept_in.Goals as goal

pub loop-argument-preserved : goal.loop-argument-preserved
loop-argument-preserved c =
    kept_more _ _ _ _ _ _ _ _ c.loop-argument-test.true c.argument-item.is c.awaited_after-awaited.ensures c.in_ok-keep.ensures c.loop-argument.invariant

pub returns : goal.returns
returns c = sym (kept_end _ _ _ _ c.loop-argument-test.false) ∙ c.loop-argument.invariant
