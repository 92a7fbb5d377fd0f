use Rattle.std.proofs.Common.{◌≡◌, drop}
use Rattle.port_match.specs.Matcher.{matched, at_of}
use Rattle.port_match.proofs.matching.Matcher.matched.Given as goal

abbrev pub invariant-loop-pat : goal.invariant-loop-pat
invariant-loop-pat l =
    matched l.text (drop l.pat-index l.pats) (at_of l.left l.self.ends.items l.self.bounds.items) ≡ matched l.text l.pats (at_of l.initial.left l.initial.self.ends.items l.initial.self.bounds.items)
