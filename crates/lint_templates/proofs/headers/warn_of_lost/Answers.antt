use Rattle.lint_templates.proofs.Lost.{more_lost}
use Rattle.lint_templates.proofs.headers.warn_of_lost.Goals as goal

pub loop-name-preserved : goal.loop-name-preserved
loop-name-preserved c = record {
  added = more_lost c.args.key c.args.listed.now c.args.source.now c.args.defined.now _ _ _ _ _ _ c.loop-name-test.true c.as_slice.ensures c.name-item.is c.loop-name.invariant.added c.in_ok-warn_if_lost.ensures.added;
  within = λ held. c.in_ok-warn_if_lost.ensures.within (c.loop-name.invariant.within held);
}
