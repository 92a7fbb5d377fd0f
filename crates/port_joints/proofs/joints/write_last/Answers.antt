use Rattle.port_joints.proofs.joints.write_last.Goals as goal

pub returns : goal.returns
returns c =
    λ _. record {
      is_first = c.args.reading.now.is_first;
      start = c.args.reading.now.at;
      before = c.args.reading.now.out.items;
      plain = c.requires.plain;
      begun = c.requires.begun;
      last = c.requires.operand;
      is = c.in_ok-extend_from_slice.ensures.items;
    }
