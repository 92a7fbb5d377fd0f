use Rattle.ac_resumable.proofs.NameLists.{added_more, extends_more}
use Rattle.ac_resumable.proofs.tested.Tested.add_all.Goals as goal

pub loop-name-preserved : goal.loop-name-preserved
loop-name-preserved c = record {
  added = added_more _ _ _ _ _ _ _ c.loop-name-test.true c.name-item.is c.as_slice.ensures c.loop-name.invariant.added c.in_ok-add.ensures;
  grown = extends_more _ _ _ _ c.loop-name.invariant.grown c.in_ok-add.ensures;
}
