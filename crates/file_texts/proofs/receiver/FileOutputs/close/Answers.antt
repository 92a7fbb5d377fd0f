use Rattle.file_texts.proofs.Puts.{done_of_view}
use Rattle.file_texts.proofs.receiver.FileOutputs.close.Goals as goal

pub returns-clause-done : goal.returns-clause-done
returns-clause-done g c = done_of_view g.D.Disk.known _ _ c.self.view_is c.self.invariant.2
