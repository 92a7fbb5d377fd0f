use Rattle.std.proofs.Common.{◌≡◌, drop}
use Rattle.port_match.specs.Matcher.{rounds, at_of}
use Rattle.port_match.proofs.matching.Matcher.many.Given as goal

abbrev pub invariant-loop-turn : goal.invariant-loop-turn
invariant-loop-turn l =
    rounds (drop l.turn-index l.parts) l.pieces (at_of l.left l.self.ends.items l.self.bounds.items)
    ≡ rounds l.parts l.pieces (at_of l.initial.left l.initial.self.ends.items l.initial.self.bounds.items)
