use Rattle.port_joints.proofs.joints.is_option_at.Goals as goal

pub returns : goal.returns
returns c =
    λ is. let p = c.is_option_between.ensures is in record { at = c.args.at; end = c.args.end; from = c.args.from; gap = p.0.0; option = p.0.1; blanks = p.1.0; word = p.1.1 }
