use Rattle.ac_laws.proofs.Idles as lemmas
use Rattle.ac_laws.proofs.idle_has_no_effect.Goals as goal

pub returns : goal.returns
returns c = record { law = lemmas.idle_has_no_effect }
