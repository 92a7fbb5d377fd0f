use Rattle.std.proofs.Common.{◌≡◌, length}
use Rattle.shellword.specs.Joining.{joining}
use Rattle.shellword.proofs.test.join_all.Given as goal

abbrev pub invariant-loop-token : goal.invariant-loop-token
invariant-loop-token l = joining l.before l.words.items l.at l.tokens.items ≡ joining l.fn.before l.fn.words.items 0 l.fn.tokens.items

abbrev pub decreases-loop-token : goal.decreases-loop-token
decreases-loop-token l = length l.tokens.items
