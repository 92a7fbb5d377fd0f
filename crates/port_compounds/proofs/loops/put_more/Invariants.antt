use Rattle.std.proofs.Common.{◌≡◌, ◌++◌, map, take}
use Rattle.std.specs.List.{flat_map}
use Rattle.port_compounds.specs.Loops.{further}
use Rattle.port_compounds.proofs.loops.put_more.Given as goal

abbrev pub invariant-loop-word : goal.invariant-loop-word
invariant-loop-word l = l.out.items ≡ l.initial.out.items ++ flat_map (further l.indent l.name l.body) (map (λ p. p.now) (take l.word-index l.words))
