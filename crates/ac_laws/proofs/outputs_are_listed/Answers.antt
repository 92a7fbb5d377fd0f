use Rattle.ac_laws.proofs.Listed as lemmas
use Rattle.ac_laws.proofs.outputs_are_listed.Goals as goal

pub returns : goal.returns
returns c = record { value = lemmas.outputs_are_listed; fault = lemmas.outputs_are_refused }
