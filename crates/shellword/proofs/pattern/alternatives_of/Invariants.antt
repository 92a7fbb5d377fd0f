use Rattle.std.proofs.Common.{◌≡◌, length}
use Rattle.shellword.specs.Listing.{alternatives}
use Rattle.shellword.proofs.PatternLists.{with_patterns}
use Rattle.shellword.proofs.pattern.alternatives_of.Given as goal

abbrev pub invariant-alternatives : goal.invariant-alternatives
invariant-alternatives l = with_patterns l.patterns.items (alternatives l.at l.tokens.items) ≡ alternatives 0 l.fn.tokens.items

abbrev pub decreases-alternatives : goal.decreases-alternatives
decreases-alternatives l = length l.tokens.items
