use Rattle.std.proofs.Common.{rules}
use Rattle.cmd_header.proofs.Saying.{said_of_named, unread_said, memory_for}
use Rattle.cmd_header.proofs.command.print_named.Goals as goal

pub returns-in-Ok-Some-clause-refused : goal.returns-in-Ok-Some-clause-refused
returns-in-Ok-Some-clause-refused g c = said_of_named _ _ _ _ _ _ _ _ c.in-Ok-Some.linted.text c.in-Ok-Some.linted.directory _ (search rules) c.print_template.ensures.refused

pub returns-in-Ok-None-clause-refused : goal.returns-in-Ok-None-clause-refused
returns-in-Ok-None-clause-refused g c = λ is. unread_said _ _ _ _ _ _ _ _ (search rules) c.tell_file.ensures.told

pub returns-in-Err-clause-refused : goal.returns-in-Err-clause-refused
returns-in-Err-clause-refused g c = λ is. memory_for _ _ _ _ _ _ _ _ c.tell_memory.ensures.told
