use Rattle.port_compounds.specs.Loops as specs
use Rattle.port_parts.proofs.Steps.{on_true}
use Rattle.port_compounds.proofs.loops.push_next.Goals as goal

pub returns : goal.returns
returns c = on_true (λ adds. specs.AreWords.more c.requires adds) c.push_word.result c.push_word.ensures
