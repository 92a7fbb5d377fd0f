use Rattle.shellword.proofs.Laws.{word_refusal, front_refusal, here_refusal}
use Rattle.shellword.proofs.readings.refusals_are_exact.Goals as goal

pub returns : goal.returns
returns c = record { word = word_refusal; front = front_refusal; here = here_refusal }
