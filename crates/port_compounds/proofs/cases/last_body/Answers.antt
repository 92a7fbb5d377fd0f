use Rattle.std.proofs.Common.{refl}
use Rattle.port_compounds.specs.Cases as specs
use Rattle.port_parts.proofs.Steps.{on_some}
use Rattle.port_compounds.proofs.cases.last_body.Goals as goal

pub returns-then-are_blank_to : goal.returns-then-are_blank_to
returns-then-are_blank_to c = let blank = c.if-are_blank_to.ensures refl in on_some (λ b is. specs.IsLastBody.closed _ is blank.0 blank.1) c.closed_body.result c.closed_body.ensures
