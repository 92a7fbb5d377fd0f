use Rattle.std.proofs.Common.{refl}
use Rattle.file_texts.proofs.Guarded.{one_unguarded}
use Rattle.file_texts.proofs.Puts.{lines_after, same_lines_after, done_after, done_refused, same_unguarded}
use Rattle.file_texts.proofs.receiver.FileOutputsOutputs.put.Goals as goal

pub invariant_of-self : goal.invariant_of-self
invariant_of-self g c = (
  lines_after _ _ _ _ _ _ _ _ _ _ c.self.invariant.0 c.in-Ok.ensures.taken,
  one_unguarded _ _ _ _ _ refl c.in-Ok.ensures.taken.kept.artifact_kept c.in-Ok.ensures.unguarded c.self.invariant.1,
  λ unclosed. done_after _ _ _ _ _ _ _ _ _ _ _ _ refl (c.self.invariant.2 unclosed) c.in-Ok.ensures.taken,
)

pub invariant_of-self-in-Err : goal.invariant_of-self-in-Err
invariant_of-self-in-Err g c = (
  same_lines_after _ _ _ _ c.self.invariant.0 c.in-Err.ensures.unchanged,
  same_unguarded _ _ _ _ _ c.in-Err.ensures.unchanged c.self.invariant.1,
  λ unclosed. done_refused _ _ _ _ _ _ _ _ _ _ c.args.kind c.args.name.now (c.self.invariant.2 unclosed) c.in-Err.ensures.unchanged c.in-Err.ensures.unplaced c.in-Err.ensures.undone,
)
