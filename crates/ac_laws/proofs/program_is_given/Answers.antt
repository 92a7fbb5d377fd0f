use Rattle.ac_laws.proofs.Helps as lemmas
use Rattle.ac_laws.proofs.program_is_given.Goals as goal

pub returns : goal.returns
returns c = record { law = lemmas.program_is_given }
