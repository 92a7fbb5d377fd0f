use Rattle.std.proofs.Common.{◌≡◌, length}
use Rattle.std.specs.List.{list_all}
use Rattle.shellword.specs.Tokens.{is_newline}
use Rattle.shellword.proofs.test.are_newlines.Given as goal

abbrev pub invariant-loop-token : goal.invariant-loop-token
invariant-loop-token l = list_all is_newline l.tokens.items ≡ list_all is_newline l.fn.tokens.items

abbrev pub decreases-loop-token : goal.decreases-loop-token
decreases-loop-token l = length l.tokens.items
