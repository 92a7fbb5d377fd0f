use Rattle.std.proofs.Common.{◌≡◌, length}
use Rattle.options_line.specs.Slashes.{unslashed}
use Rattle.options_line.proofs.slashes.unslashed.Given as goal

abbrev pub invariant-loop-last : goal.invariant-loop-last
invariant-loop-last l = unslashed l.rest ≡ unslashed l.text

abbrev pub decreases-loop-last : goal.decreases-loop-last
decreases-loop-last l = length l.rest
