use Rattle.cmd_lint.proofs.Saying.{memory_said}
use Rattle.cmd_lint.proofs.command.lint_name.Goals as goal

pub returns-in-Err-clause-said : goal.returns-in-Err-clause-said
returns-in-Err-clause-said g c = memory_said _ _ _ _ _ _ _ _ _ c.tell_memory.ensures.status c.tell_memory.ensures.told
