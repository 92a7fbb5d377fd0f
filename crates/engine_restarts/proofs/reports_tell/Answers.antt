use Rattle.engine_restarts.proofs.Tellings as lemmas
use Rattle.engine_restarts.proofs.reports_tell.Goals as goal

pub returns : goal.returns
returns c = record { law = lemmas.tells }
