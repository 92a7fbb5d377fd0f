use Rattle.std.proofs.Common.{refl}
use Rattle.port_compounds.specs.Ifs as specs
use Rattle.port_parts.proofs.Steps.{on_true}
use Rattle.port_compounds.proofs.branches.push_else.Goals as goal

pub returns : goal.returns
returns c = on_true (λ adds. specs.AreAllBranches.default c.requires (c.if-not-is_word.ensures refl) adds) c.push_body.result c.push_body.ensures
