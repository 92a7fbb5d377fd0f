use Rattle.std.proofs.Common.{◌≡◌, drop}
use Rattle.port_match.specs.Matcher.{pieces_to, at_of}
use Rattle.port_match.proofs.matching.Matcher.take.Given as goal

abbrev pub invariant-loop-piece : goal.invariant-loop-piece
invariant-loop-piece l =
    pieces_to (drop l.piece-index l.pieces) (at_of l.left l.self.ends.items l.self.bounds.items) ≡ pieces_to l.pieces (at_of l.initial.left l.initial.self.ends.items l.initial.self.bounds.items)
