use Rattle.cmd_port.proofs.Putting.{served_taken, served_stays}
use Rattle.cmd_port.proofs.serving.served.Goals as goal

pub returns-then-branch-clause-served : goal.returns-then-branch-clause-served
returns-then-branch-clause-served c = served_taken c.args.all _ c.args.wanted.now c.args.text.now _ _ c.in_ok-next.ensures c.as_slice.ensures.value c.in_ok-is_accepted.ensures c.if-branch.true

pub returns-clause-served : goal.returns-clause-served
returns-clause-served c =
    served_stays c.args.all _ (λ v. v.items) c.args.wanted.now c.args.text.now _ _ c.from_slice.result c.in_ok-next.ensures c.as_slice.ensures.value c.in_ok-is_accepted.ensures c.if-branch.false c.from_slice.ensures.items
