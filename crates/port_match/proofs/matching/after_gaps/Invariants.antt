use Rattle.std.proofs.Common.{◌≡◌, drop}
use Rattle.port_match.specs.Matcher.{after_gaps}
use Rattle.port_match.proofs.matching.after_gaps.Given as goal

abbrev pub invariant-loop-i : goal.invariant-loop-i
invariant-loop-i l = after_gaps (drop l.i l.left) ≡ after_gaps l.left
