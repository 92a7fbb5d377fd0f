use Rattle.port_joints.specs.Joints as specs
use Rattle.port_joints.proofs.joints.begins_with_option.Goals as goal

pub returns : goal.returns
returns c = λ is. specs.BeginsPlain.option (c.begins_option.ensures is)
