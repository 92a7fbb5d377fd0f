use Rattle.std.proofs.Common.{reverse, sym, ◌∙◌}
use Rattle.ac_parts.proofs.Turns.{still_open}
use Rattle.ac_parts.proofs.walk.Walk.close_ended.Goals as goal

pub returns : goal.returns
returns c =
    let walk = c.loop-self.self in
    sym c.loop-self.invariant.1 ∙ still_open walk.top (reverse walk.below.items) walk.at c.loop-self-test.false
