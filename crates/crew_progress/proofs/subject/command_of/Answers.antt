use Rattle.crew_progress.proofs.Parts.{nothing_yet, words_more, words_all}
use Rattle.crew_progress.proofs.subject.command_of.Goals as goal

pub loop-word-init : goal.loop-word-init
loop-word-init c = nothing_yet _ c.new-line.ensures

pub loop-word-preserved : goal.loop-word-preserved
loop-word-preserved c = words_more _ _ _ _ c.loop-word-test.true c.word-item.is (c.put_word.ensures _ c.loop-word.invariant)

pub returns : goal.returns
returns c = words_all _ _ _ c.loop-word-test.false c.loop-word.invariant
