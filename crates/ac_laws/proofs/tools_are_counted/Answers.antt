use Rattle.ac_laws.proofs.Counted as lemmas
use Rattle.ac_laws.proofs.tools_are_counted.Goals as goal

pub returns : goal.returns
returns c = record { law = lemmas.tools_are_counted }
