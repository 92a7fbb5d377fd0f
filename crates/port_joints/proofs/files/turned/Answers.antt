use Rattle.std.proofs.Common.{subst, sym}
use Rattle.port_joints.specs.Files as specs
use Rattle.port_joints.proofs.files.turned.Goals as goal

pub read_all-requires : goal.read_all-requires
read_all-requires c = record { begun = subst (specs.IsTurned c.args.text.now 0) (sym c.new.ensures.items) specs.IsTurned.begun }
