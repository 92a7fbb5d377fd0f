use Rattle.port_joints.proofs.Spelling.{spelled_end}
use Rattle.port_joints.proofs.spelled.finish.Goals as goal

pub returns : goal.returns
returns c = spelled_end c.extend_from_slice.result c.args.text.now c.args.spelling.now.at c.args.spelling.now.out.items _ c.requires.begun c.extend_from_slice.ensures.items
