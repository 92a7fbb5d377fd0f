use Rattle.crew_progress.proofs.Parts.{either_told}
use Rattle.crew_progress.proofs.subject.subject_in.Goals as goal

pub returns : goal.returns
returns c =
    let last = either_told _ _ _ _ _ c.or.ensures c.declaration_in.ensures c.type_in.ensures in
    let later = either_told _ _ _ _ _ c.or-2.ensures c.function_in.ensures last in
    either_told _ _ _ _ _ c.or-3.ensures c.named.ensures later
