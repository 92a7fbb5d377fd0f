use Rattle.std.proofs.Common.{rules}
use Rattle.cmd_header.proofs.Saying.{output_told}
use Rattle.cmd_header.proofs.command.put_template.Goals as goal

pub returns-in-Err-clause-refused : goal.returns-in-Err-clause-refused
returns-in-Err-clause-refused g c = λ is. output_told _ _ _ _ _ (search rules) c.tell_file.ensures.told
