use Rattle.shell_bare.proofs.FaultPlaces.{text-fault}
use Rattle.shell_bare.proofs.readings.faults_are_placed.Goals as goal

pub returns : goal.returns
returns c = text-fault
