use Rattle.cmd_port.proofs.Left.{kept_commented}
use Rattle.cmd_port.proofs.comments.commented.Goals as goal

pub returns-clause-commented : goal.returns-clause-commented
returns-clause-commented c = kept_commented c.with_left.result c.args.text.now c.in_ok-out.out.items c.in_ok-out.ensures c.with_left.ensures.kept
