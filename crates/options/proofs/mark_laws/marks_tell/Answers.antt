use Rattle.options.proofs.Fresh as lemmas
use Rattle.options.proofs.mark_laws.marks_tell.Goals as goal

pub returns : goal.returns
returns c = record { law = lemmas.marks_tell }
