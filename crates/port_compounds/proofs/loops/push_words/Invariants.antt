use Rattle.std.proofs.Common.{map}
use Rattle.port_compounds.specs.Loops.{AreWords}
use Rattle.port_compounds.proofs.loops.push_words.Given as goal

abbrev pub invariant-loop : goal.invariant-loop
invariant-loop l = AreWords l.text l.start l.end (map (λ p. p.now) l.out.items)
