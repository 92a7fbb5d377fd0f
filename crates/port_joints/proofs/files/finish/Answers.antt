use Rattle.port_joints.proofs.Asking.{turned_end}
use Rattle.port_joints.proofs.files.finish.Goals as goal

pub returns : goal.returns
returns c = turned_end c.extend_from_slice.result c.args.text.now c.args.turning.now.at c.args.turning.now.out.items _ c.requires.begun c.extend_from_slice.ensures.items
