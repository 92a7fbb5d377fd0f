use Rattle.shell_bare.proofs.Refusals.{fault_reading}
use Rattle.shell_bare.proofs.readings.faults_are_exact.Goals as goal

pub returns : goal.returns
returns c = fault_reading
