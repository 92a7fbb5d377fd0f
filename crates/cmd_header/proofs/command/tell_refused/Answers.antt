use Rattle.cmd_header.proofs.Saying.{wrong_said, memory_said}
use Rattle.cmd_header.proofs.command.tell_refused.Goals as goal

pub returns-in-Ok-clause-said : goal.returns-in-Ok-clause-said
returns-in-Ok-clause-said g c = λ is_full no. wrong_said _ _ _ _ is_full _ _ c.tell_page.ensures.told no

pub returns-in-Err-clause-said : goal.returns-in-Err-clause-said
returns-in-Err-clause-said g c = λ is_full no. memory_said _ _ _ _ is_full _ c.tell_memory.ensures.told
