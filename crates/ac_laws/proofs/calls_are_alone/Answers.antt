use Rattle.ac_laws.proofs.Holdings as lemmas
use Rattle.ac_laws.proofs.calls_are_alone.Goals as goal

pub returns : goal.returns
returns c = record { law = lemmas.calls_are_alone }
