use Rattle.crew_launch.proofs.Freeing.{freed_none, freed_some, refused_some}
use Rattle.crew_launch.proofs.products.free_products.Goals as goal

pub returns-in-Some-clause-freed : goal.returns-in-Some-clause-freed
returns-in-Some-clause-freed g c = freed_some _ _ _ _ _ c.in-Some.ensures.cases c.free_both.ensures.freed

pub returns-in-Some-clause-refused : goal.returns-in-Some-clause-refused
returns-in-Some-clause-refused g c = refused_some _ _ _ _ _ c.in-Some.ensures.cases c.free_both.ensures.refused

pub returns-in-None-clause-freed : goal.returns-in-None-clause-freed
returns-in-None-clause-freed g c = freed_none _ _ c.in-None.ensures.cases
