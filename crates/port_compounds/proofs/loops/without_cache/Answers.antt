use Rattle.std.proofs.Common.{refl, subst, sym}
use Rattle.std.specs.Prelude.{codes}
use Rattle.port_parts.specs.Places.{Has}
use Rattle.port_compounds.proofs.loops.without_cache.Goals as goal

pub returns-else-has : goal.returns-else-has
returns-else-has c = record { are = c.requires; no_cache = λ found. c.if-has.ensures refl (subst (Has (codes "_cv_")) (sym c.as_slice.ensures.value) found) }
