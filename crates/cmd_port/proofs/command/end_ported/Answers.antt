use Rattle.cmd_port.proofs.Saying.{memory_lost}
use Rattle.cmd_port.proofs.command.end_ported.Goals as goal

pub returns-in-Err-clause-refused : goal.returns-in-Err-clause-refused
returns-in-Err-clause-refused g c = λ is. memory_lost _ _ _ _ _ c.tell_memory.ensures.told
