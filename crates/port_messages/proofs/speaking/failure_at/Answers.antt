use Rattle.port_messages.proofs.speaking.failure_at.Goals as goal

pub returns : goal.returns
returns c =
    record {
      to = c.args.to;
      from = c.args.from;
      front = c.requires.front;
      prints = c.in-Some-message_of.ensures.0;
      can_be_shown = c.in-Some-message_of.ensures.1;
      exits = c.in-Some.ensures;
    }
