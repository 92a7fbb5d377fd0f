use Rattle.cmd_port.proofs.Left.{front_left}
use Rattle.cmd_port.proofs.comments.with_left.Goals as goal

pub returns-clause-left : goal.returns-clause-left
returns-clause-left c = front_left c.with_front.result c.as_slice-2.result.now c.with_front.ensures
