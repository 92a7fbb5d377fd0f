use Rattle.std.proofs.Common.{sym}
use Rattle.shellword.proofs.Elements.{word_is-len}
use Rattle.shellword.proofs.word.are_bytes.Goals as goal

pub returns-then-parts-text : goal.returns-then-parts-text
returns-then-parts-text c = sym (word_is-len c.args.parts.now c.args.text.now c.if-parts-text.true)
