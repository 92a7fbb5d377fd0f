use Rattle.m4quote.proofs.Laws.{one_of_both}
use Rattle.m4quote.proofs.facts.some_reading.Goals as goal

pub returns : goal.returns
returns c = one_of_both
