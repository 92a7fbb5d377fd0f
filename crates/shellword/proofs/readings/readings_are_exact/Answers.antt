use Rattle.shellword.proofs.Laws.{word_reading, front_reading, here_reading, test_reading, pattern_reading}
use Rattle.shellword.proofs.readings.readings_are_exact.Goals as goal

pub returns : goal.returns
returns c = record { word = word_reading; front = front_reading; here = here_reading; test = test_reading; patterns = pattern_reading }
