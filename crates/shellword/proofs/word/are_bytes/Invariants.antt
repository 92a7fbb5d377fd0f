use Rattle.std.proofs.Common.{◌≡◌, drop}
use Rattle.shellword.specs.Element.{word_is}
use Rattle.shellword.proofs.word.are_bytes.Given as goal

abbrev pub invariant-loop-i : goal.invariant-loop-i
invariant-loop-i l = word_is (drop l.i l.parts) (drop l.i l.text) ≡ word_is l.parts l.text
