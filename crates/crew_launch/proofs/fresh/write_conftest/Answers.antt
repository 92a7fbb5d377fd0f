use Rattle.crew_launch.specs.Fresh.{clearing_each, products_of, spoiling}
use Rattle.crew_launch.proofs.Freeing.{front_first}
use Rattle.crew_launch.proofs.fresh.write_conftest.Goals as goal

pub returns-in-Err-clause-spoilt : goal.returns-in-Err-clause-spoilt
returns-in-Err-clause-spoilt g c =
    let name = c.args.name.now in
    front_first _ _ (clearing_each (products_of name)) (spoiling name) c.in-Err.ensures.refused
