use Rattle.std.proofs.Common.{◌≡◌, take}
use Rattle.shellword.specs.Truth.{single, truth}
use Rattle.shellword.specs.Nested.{nested}
use Rattle.shellword.proofs.test.holds_all.Given as goal

abbrev pub invariant-loop-next : goal.invariant-loop-next
invariant-loop-next l = l.holds ≡ truth (nested (single l.first) (take l.next-index l.rest)) l.vars
