use Rattle.ac_laws.proofs.Positions as lemmas
use Rattle.ac_laws.proofs.statements_are_apart.Goals as goal

pub returns : goal.returns
returns c = record { law = lemmas.statements_are_apart; read = lemmas.read_are_apart }
