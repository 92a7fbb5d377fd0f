use Rattle.ac_laws.proofs.Holdings as lemmas
use Rattle.ac_laws.proofs.items_are_held.Goals as goal

pub returns : goal.returns
returns c = record { law = lemmas.items_are_held; fault = lemmas.items_are_refused }
