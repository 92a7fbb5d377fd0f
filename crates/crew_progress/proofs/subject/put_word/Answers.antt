use Rattle.std.proofs.Common.{[], ◌∷◌}
use Rattle.crew_progress.proofs.Parts.{put_both}
use Rattle.crew_progress.proofs.subject.put_word.Goals as goal

pub returns : goal.returns
returns c = λ text is. let first = c.put_front.ensures text is in put_both _ _ (32 ∷ []) _ c.args.word.now text first c.as_slice.ensures (c.put_front-2.ensures _ first)
