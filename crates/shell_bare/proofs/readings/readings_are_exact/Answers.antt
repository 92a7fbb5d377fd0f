use Rattle.shell_bare.proofs.Joining.{joined_reading}
use Rattle.shell_bare.proofs.Laws.{text_reading}
use Rattle.shell_bare.proofs.readings.readings_are_exact.Goals as goal

pub returns : goal.returns
returns c = record { joined = joined_reading; statements = text_reading }
