use Rattle.options.specs.Opening.{marks_of}
use Rattle.options.proofs.Squeezes.{two_more}
use Rattle.options.proofs.opening.push_marks.Goals as goal

pub returns : goal.returns
unfolding marks_of
returns c = two_more _ _ _ _ _ _ _ c.in_ok-push.ensures.items c.in_ok-push-2.ensures.items c.in_ok-set.ensures c.in_ok-value.ensures
