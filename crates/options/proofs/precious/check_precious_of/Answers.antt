use Rattle.options.proofs.CheckClauses.{sound, complete, error_sound, error_complete}
use Rattle.options.proofs.precious.check_precious_of.Goals as goal

pub returns-clause-sound : goal.returns-clause-sound
returns-clause-sound c = sound c.args.precious.now c.args.vars.now c.args.cache.now c.check.result _ c.check.ensures.exact

pub returns-clause-complete : goal.returns-clause-complete
returns-clause-complete c = complete c.args.precious.now c.args.vars.now c.args.cache.now c.check.result _ c.check.ensures.exact

pub returns-clause-error_sound : goal.returns-clause-error_sound
returns-clause-error_sound c = error_sound c.args.precious.now c.args.vars.now c.args.cache.now c.check.result _ c.check.ensures.exact

pub returns-clause-error_complete : goal.returns-clause-error_complete
returns-clause-error_complete c = error_complete c.args.precious.now c.args.vars.now c.args.cache.now c.check.result _ c.check.ensures.exact
