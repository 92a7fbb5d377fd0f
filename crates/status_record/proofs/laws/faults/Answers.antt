use Rattle.status_record.proofs.OneFault.{no_fault}
use Rattle.status_record.proofs.laws.faults.Goals as goal

pub returns-clause-has_none : goal.returns-clause-has_none
returns-clause-has_none c = no_fault
