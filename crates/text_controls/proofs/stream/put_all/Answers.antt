use Rattle.text_controls.proofs.Joins.{put_nothing, put_more, put_whole}
use Rattle.text_controls.proofs.stream.put_all.Goals as goal

pub loop-done-init : goal.loop-done-init
loop-done-init g c = put_nothing _ _ _

pub loop-done-preserved : goal.loop-done-preserved
loop-done-preserved g c =
    put_more _ _ _ _ _ _ _ _ _ c.loop-done.invariant c.in_ok-taken.ensures.within c.in_ok-taken.ensures.shown c.after_all-lacking.ensures

pub returns : goal.returns
returns g c = put_whole _ _ _ _ _ _ c.loop-done.invariant c.loop-done-test.false
