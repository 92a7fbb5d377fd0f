use Rattle.shellword.proofs.Laws.{word_faults, front_faults, here_faults, test_faults, pattern_faults}
use Rattle.shellword.proofs.readings.faults_are_placed.Goals as goal

pub returns : goal.returns
returns c = record { word = word_faults; front = front_faults; here = here_faults; test = test_faults; patterns = pattern_faults }
