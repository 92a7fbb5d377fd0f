use Rattle.file_texts.proofs.Placed.{unstepped}
use Rattle.file_texts.proofs.receiver.keep_written.Goals as goal

pub returns-then-is_err-clause-undone : goal.returns-then-is_err-clause-undone
returns-then-is_err-clause-undone g c = unstepped _ _ _ _

pub returns-then-is_err-2-clause-undone : goal.returns-then-is_err-2-clause-undone
returns-then-is_err-2-clause-undone g c = unstepped _ _ _ _
