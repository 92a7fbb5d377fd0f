use Rattle.std.proofs.Common.{refl}
use Rattle.port_breaks.specs.Breaks as specs
use Rattle.port_breaks.proofs.breaks.may_break_at.Goals as goal

pub returns-then-is_joint : goal.returns-then-is_joint
returns-then-is_joint c = λ is.
    let parts = (c.if-is_joint.ensures refl).0 in specs.MayBreak.joined c.args.from c.args.at (c.is_told_between.ensures is) parts.0 parts.1.0 parts.1.1
