use Rattle.options.proofs.Fresh as lemmas
use Rattle.options.proofs.mark_laws.fresh_runs_agree.Goals as goal

pub returns : goal.returns
returns c = record { law = lemmas.fresh_runs_agree }
