use Rattle.meaning_resumption.proofs.Whole as lemmas
use Rattle.meaning_resumption.proofs.resumes.Goals as goal

pub returns : goal.returns
returns c = record { law = lemmas.resumes }
