use Rattle.std.proofs.Common.{refl}
use Rattle.engine.proofs.Wholes.{fails_first, starts}
use Rattle.engine.proofs.configuring.gone.Goals as goal

pub returns-in_err-start-clause-whole : goal.returns-in_err-start-clause-whole
returns-in_err-start-clause-whole g c = fails_first _ _ _ _ _ _ _ _ _ _ _ _ refl c.in_err-start.ensures c.from_residual.ensures.1 (refl, refl)

pub returns-clause-whole : goal.returns-clause-whole
returns-clause-whole g c = starts _ _ c.args.needs.now _ _ _ _ _ _ _ _ c.in_ok-start.ensures c.configured.ensures.done
