use Rattle.port_compounds.specs.Cases as specs
use Rattle.port_parts.proofs.Steps.{on_true}
use Rattle.port_compounds.proofs.cases.push_next.Goals as goal

pub returns : goal.returns
returns c = on_true (λ adds. specs.AreBranches.next c.requires adds) c.push_branch.result c.push_branch.ensures
