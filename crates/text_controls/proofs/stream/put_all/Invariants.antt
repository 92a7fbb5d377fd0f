use Rattle.std.proofs.Common.{◌-◌, length}
use Rattle.text_controls.proofs.Joins.{IsPut}
use Rattle.text_controls.proofs.stream.put_all.Given as goal

abbrev pub invariant-loop-done : goal.invariant-loop-done
invariant-loop-done g l = IsPut (g.W.Write.contents l.fn.stream) (g.W.Write.contents l.stream) l.fn.awaited l.lacking l.text l.done

abbrev pub decreases-loop-done : goal.decreases-loop-done
decreases-loop-done g l = length l.text - l.done
