use Rattle.std.proofs.Common.{sym}
use Rattle.cachefile.proofs.Words.{returned_is, word_if_safe, word_if_unsafe}
use Rattle.cachefile.proofs.word.word_text.Goals as goal

pub returns-then-are_safe-clause-reads_back : goal.returns-then-are_safe-clause-reads_back
returns-then-are_safe-clause-reads_back c =
    returned_is c.args.value.now c.from_slice.result (word_if_safe c.args.value.now c.from_slice.result (sym c.if-are_safe.ensures) c.from_slice.ensures.equal)

pub returns-clause-reads_back : goal.returns-clause-reads_back
returns-clause-reads_back c =
    returned_is c.args.value.now c.quoted.result (word_if_unsafe c.args.value.now c.quoted.result (sym c.if-are_safe.ensures) c.quoted.ensures)
