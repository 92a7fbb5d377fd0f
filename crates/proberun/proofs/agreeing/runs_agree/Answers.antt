use Rattle.proberun.proofs.AgreeLemmas.{runs_agree}
use Rattle.proberun.proofs.agreeing.runs_agree.Goals as goal

pub returns : goal.returns
returns c = record { agree = runs_agree }
