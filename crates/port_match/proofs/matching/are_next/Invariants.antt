use Rattle.std.proofs.Common.{◌≡◌, drop}
use Rattle.port_match.specs.Matcher.{are_next}
use Rattle.port_match.proofs.matching.are_next.Given as goal

abbrev pub invariant-loop-piece : goal.invariant-loop-piece
invariant-loop-piece l = are_next (drop l.piece-index l.pieces) l.left ≡ are_next l.pieces l.initial.left
