use Rattle.std.proofs.Common.{◌≡◌, ◌++◌, codes, flat_map, take}
use Rattle.cfglog.specs.Texts.{written}
use Rattle.cfglog.proofs.log.put_words.Given as goal

abbrev pub invariant-loop-word : goal.invariant-loop-word
invariant-loop-word l = l.text.items ≡ l.fn.text.items ++ flat_map (λ word. codes " " ++ written word) (take l.word-index l.fn.words)
