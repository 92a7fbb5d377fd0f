use Rattle.engine.proofs.Remakings.{remakes_agree}
use Rattle.engine.proofs.remaking.remakes_agree.Goals as goal

pub returns : goal.returns
returns c = record { agree = remakes_agree }
