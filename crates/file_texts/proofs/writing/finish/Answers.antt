use Rattle.file_texts.proofs.Writings.{dropped_if}
use Rattle.file_texts.proofs.writing.finish.Goals as goal

pub returns-in-Err-clause-failed : goal.returns-in-Err-clause-failed
returns-in-Err-clause-failed g c =
    dropped_if c.remove.result _ _ _ c.args.other.now c.in-Err.ensures.failed c.remove.ensures.removed c.remove.ensures.refused
