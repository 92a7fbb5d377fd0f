use Rattle.std.proofs.Common.{subst}
use Rattle.cachefile.specs.Cache.{vars_after}
use Rattle.options.specs.Reading.{Gives}
use Rattle.options.proofs.Marked.{same_found}
use Rattle.options.proofs.precious.compare_all.Goals as goal

pub returns : goal.returns
returns c =
    subst (λ found. Gives (λ changes. changes.items) c.restored_variables.result found)
    (same_found c.args.precious.now 1 c.args.vars.now c.in_ok-marked.marked (vars_after c.args.cache.now c.args.vars.now) c.args.precious.now c.in_ok-marked.ensures)
    c.restored_variables.ensures
