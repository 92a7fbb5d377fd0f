use Rattle.std.proofs.Common.{map}
use Rattle.port_compounds.specs.Cases.{AreBranches}
use Rattle.port_compounds.proofs.cases.push_more.Given as goal

abbrev pub invariant-loop-i : goal.invariant-loop-i
invariant-loop-i l = AreBranches l.text l.start l.end (map (λ p. p.now) l.out.items)
