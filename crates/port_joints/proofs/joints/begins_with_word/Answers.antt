use Rattle.std.proofs.Common.{refl}
use Rattle.port_joints.specs.Joints as specs
use Rattle.port_joints.proofs.joints.begins_with_word.Goals as goal

pub returns-then-is_gap_between : goal.returns-then-is_gap_between
returns-then-is_gap_between c = λ is. specs.BeginsPlain.word c.args.at (c.if-is_gap_between.ensures refl) (c.is_word_at.ensures is)
