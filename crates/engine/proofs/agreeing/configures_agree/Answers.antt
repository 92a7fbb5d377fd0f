use Rattle.engine.proofs.Agreements.{configures_agree}
use Rattle.engine.proofs.agreeing.configures_agree.Goals as goal

pub returns : goal.returns
returns c = record { agree = configures_agree c.runs_agree.ensures.agree }
