use Rattle.meaning_resumption.proofs.WholeRuns as lemmas
use Rattle.meaning_resumption.proofs.whole_runs_resume.Goals as goal

pub returns : goal.returns
returns c = record { law = lemmas.whole_runs_resume }
