use Rattle.std.proofs.Common.{map, subst}
use Rattle.port_compounds.specs.Ifs as specs
use Rattle.port_compounds.proofs.branches.push_default.Goals as goal

pub returns-in_default : goal.returns-in_default
returns-in_default c = λ same. subst (λ end. specs.AreAllBranches c.args.text.now c.args.start end (map (λ p. p.now) c.args.out.now.items)) (c.is_same.ensures same) (specs.AreAllBranches.no_default c.requires)
