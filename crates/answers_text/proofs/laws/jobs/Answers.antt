use Rattle.answers_text.proofs.OneJob.{same_job}
use Rattle.answers_text.proofs.laws.jobs.Goals as goal

pub returns : goal.returns
returns c = λ a b a_fits b_fits is. same_job a b a_fits b_fits is
