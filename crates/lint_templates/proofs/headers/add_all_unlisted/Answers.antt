use Rattle.lint_templates.proofs.Adding.{on_unlisted}
use Rattle.lint_templates.proofs.headers.add_all_unlisted.Goals as goal

pub loop-name-preserved : goal.loop-name-preserved
loop-name-preserved c =
    on_unlisted c.args.listed.now c.args.defined.now _ _ _ _ _ _ c.loop-name-test.true c.as_slice.ensures c.name-item.is c.in_ok-add_unlisted.ensures c.loop-name.invariant
