use Rattle.std.proofs.Common.{refl}
use Rattle.port_compounds.proofs.loops.turns_with.Goals as goal

pub turns_of-requires : goal.turns_of-requires
turns_of-requires c =
    record {
      after_in = c.args.after_in;
      to = c.args.to;
      at_do = c.args.cut.at_do;
      after_do = c.saturating_add-after_do.result;
      at_done = c.args.cut.at_done;
      statement = c.requires.statement;
      alone = c.requires.alone;
      head = c.requires.head;
      are = c.requires.are;
      plain = c.in_ok-is_plain_between.ensures c.if-not-branch.false;
      ends = (c.if-not-is_before_do.ensures refl).0;
      word = (c.if-not-is_before_do.ensures refl).1;
      does = c.in-Some.ensures.0;
      again = c.in-Some.ensures.1;
    }
