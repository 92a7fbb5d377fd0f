use Rattle.crew_progress.proofs.Children.{words_none, words_more, words_all}
use Rattle.crew_progress.proofs.child.put_words.Goals as goal

pub loop-word-init : goal.loop-word-init
loop-word-init c = λ text h. words_none _ text _ c.args.words.now h

pub loop-word-preserved : goal.loop-word-preserved
loop-word-preserved c = λ text h. words_more _ text _ _ _ _ c.loop-word-test.true c.word-item.is (c.put_word.ensures _ (c.loop-word.invariant text h))

pub returns : goal.returns
returns c = λ text h. words_all _ text _ _ _ c.loop-word-test.false (c.loop-word.invariant text h)
