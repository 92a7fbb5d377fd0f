use Rattle.std.proofs.Common.{sym, ◌∙◌}
use Rattle.shellword.specs.Truth.{single}
use Rattle.shellword.proofs.Truths.{truth_single, truth_next}
use Rattle.shellword.proofs.test.holds_all.Goals as goal

pub loop-next-init : goal.loop-next-init
loop-next-init c = c.in_ok-holds.ensures ∙ sym (truth_single c.args.first.now c.args.vars.now)

pub loop-next-preserved : goal.loop-next-preserved
loop-next-preserved c =
    c.joint_holds-holds.ensures
    ∙ truth_next (single c.args.first.now) c.args.rest.now c.loop-next.next-index c.next-item.result c.args.vars.now c.loop-next.holds c.in_ok-right.right c.loop-next-test.true c.next-item.is c.loop-next.invariant c.in_ok-right.ensures
