use Rattle.std.proofs.Common.{arith, length}
use Rattle.cmd_port.proofs.Steps.{on_ok, commented_bound, comment_copied}
use Rattle.cmd_port.proofs.comments.finish.Goals as goal

pub copy_to-requires : goal.copy_to-requires
copy_to-requires c = (commented_bound c.args.text.now c.args.copy.now.at c.args.copy.now.out.items c.requires.begun, omega arith)

pub returns : goal.returns
returns c = on_ok (comment_copied c.args.text.now c.args.copy.now.at (length c.args.text.now) _ _ _ c.requires.begun (commented_bound c.args.text.now c.args.copy.now.at _ c.requires.begun) (omega arith)) c.copy_to.result c.copy_to.ensures
