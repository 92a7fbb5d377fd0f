use Rattle.std.proofs.Common.{◌≡◌, ◌++◌, drop, map}
use Rattle.header_template.specs.Pages.{wrapped}
use Rattle.header_template.proofs.page.put_words.Given as goal

abbrev pub invariant-loop-word : goal.invariant-loop-word
invariant-loop-word l =
    l.text.items ++ wrapped l.room (map (λ w. w.now) (drop l.word-index l.words)) ≡ l.fn.text.items ++ wrapped 76 (map (λ w. w.now) l.words)
