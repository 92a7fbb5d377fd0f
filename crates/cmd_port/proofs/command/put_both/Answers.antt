use Rattle.cmd_port.proofs.Saying.{output_lost}
use Rattle.cmd_port.proofs.command.put_both.Goals as goal

pub returns-then-status-eq2-clause-refused : goal.returns-then-status-eq2-clause-refused
returns-then-status-eq2-clause-refused g c = output_lost _ _ _ _ _ _ c.put_ported-status.ensures.refused
