use Rattle.ac_tree.specs.Uses.{uses_of}
use Rattle.ac_resumable.proofs.Steps.{simple_yes}
use Rattle.ac_resumable.proofs.deciding.keeps_simple.Goals as goal

pub returns-clause-value : goal.returns-clause-value
returns-clause-value c =
    simple_yes _ _ _ (uses_of c.args.declares.now c.args.effect.now) _ _ _ c.may_use.ensures c.if-not-may_use.false c.as_slice.ensures c.in_ok-uses.ensures c.in_ok-add_all.ensures.added
