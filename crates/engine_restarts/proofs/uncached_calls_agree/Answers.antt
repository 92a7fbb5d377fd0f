use Rattle.engine_restarts.proofs.Uncached as lemmas
use Rattle.engine_restarts.proofs.uncached_calls_agree.Goals as goal

pub returns : goal.returns
returns c = record { law = lemmas.uncached_calls_agree }
