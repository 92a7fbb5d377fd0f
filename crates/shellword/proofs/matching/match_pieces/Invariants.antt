use Rattle.shellword.proofs.Matcher.{State, work}
use Rattle.shellword.proofs.matching.match_pieces.Given as goal

abbrev pub invariant-steps : goal.invariant-steps
invariant-steps l = State l.pieces l.text l.piece l.at l.star

abbrev pub decreases-steps : goal.decreases-steps
decreases-steps l = work l.pieces l.text l.piece l.star
