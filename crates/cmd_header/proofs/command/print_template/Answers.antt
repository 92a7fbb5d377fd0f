use Rattle.cmd_header.proofs.Saying.{lost_of, memory_said}
use Rattle.cmd_header.proofs.Making.{answered, from_none, from_some, refused_text}
use Rattle.cmd_header.proofs.command.print_template.Goals as goal

pub returns-in-Ok-Some-clause-made : goal.returns-in-Ok-Some-clause-made
returns-in-Ok-Some-clause-made g c = answered g.E.Write.contents _ _ _ _ _ _ _ _ _ c.as_slice.ensures (from_some _ _ _ _ c.in-Ok-Some.field-0-is c.in-Ok-Some.ensures) c.put_template.ensures.put c.put_template.ensures.said

pub returns-in-Ok-Some-clause-refused : goal.returns-in-Ok-Some-clause-refused
returns-in-Ok-Some-clause-refused g c = lost_of _ _ _ _ _ _ _ c.put_template.ensures.refused

pub returns-in-Ok-None-clause-refused : goal.returns-in-Ok-None-clause-refused
returns-in-Ok-None-clause-refused g c = λ two. c.tell_refused.ensures.said _ (refused_text _ _ c.as_slice.ensures (from_none _ _ _ c.in-Ok-None.field-0-is c.in-Ok-None.ensures))

pub returns-in-Err-clause-refused : goal.returns-in-Err-clause-refused
returns-in-Err-clause-refused g c = λ is. memory_said _ _ _ _ _ _ c.tell_memory.ensures.told
