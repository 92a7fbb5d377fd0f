use Rattle.std.proofs.Common.{ℕ, List, ◌++◌, take}
use Rattle.crew_progress.specs.Screen.{IsShowing}
use Rattle.crew_progress.specs.Subject.{words_of}
use Rattle.crew_progress.proofs.child.put_words.Given as goal

abbrev pub invariant-loop-word : goal.invariant-loop-word
invariant-loop-word l =
    (text : List ℕ) → IsShowing 396 l.fn.row.line.items l.fn.row.is_cut text → IsShowing 396 l.row.line.items l.row.is_cut (text ++ words_of (take l.word-index l.words))
