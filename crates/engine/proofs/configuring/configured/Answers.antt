use Rattle.engine.proofs.Wholes.{unfinished}
use Rattle.engine.proofs.configuring.configured.Goals as goal

pub returns-in_err-ready-clause-done : goal.returns-in_err-ready-clause-done
returns-in_err-ready-clause-done g c = unfinished _ _ _ _ _ _ _ _ _ c.from_residual.ensures.1 c.in_err-ready.ensures.begun
