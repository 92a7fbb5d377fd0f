use Rattle.std.proofs.Common.{◌≡◌, reverse, vec_len}
use Rattle.ac_parts.specs.Walks.{closed}
use Rattle.ac_parts.proofs.walk.Walk.close_ended.Given as goal

abbrev pub invariant-loop-self : goal.invariant-loop-self
invariant-loop-self l = (l.self.at ≡ l.initial.self.at) × (closed l.self.top (reverse l.self.below.items) l.self.at ≡ closed l.initial.self.top (reverse l.initial.self.below.items) l.initial.self.at)

abbrev pub decreases-loop-self : goal.decreases-loop-self
decreases-loop-self l = vec_len l.self.below
