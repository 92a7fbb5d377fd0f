use Rattle.crew_launch.proofs.Freeing.{refused_second}
use Rattle.crew_launch.proofs.products.free_both.Goals as goal

pub returns-in-Ok-clause-refused : goal.returns-in-Ok-clause-refused
returns-in-Ok-clause-refused g c = refused_second _ _ _ _ _ _ c.in-Ok.ensures.freed c.free.ensures.refused
