use Rattle.std.proofs.Common.{drop, get_or}
use Rattle.std.proofs.lemmas.List.{drop_more}
use Rattle.shellword.proofs.Words.{scan_moves}
use Rattle.shellword.proofs.token.read_word_at.Goals as goal

pub returns-clause-within : goal.returns-clause-within
returns-clause-within c =
    let text = c.args.text.now in
    (scan_moves c.args.at (get_or text c.args.at 0) _ (drop c.args.at text) _ (drop_more text c.args.at 0 c.requires.within) c.requires.word c.in_ok-parts.ensures.value, c.in_ok-parts.ensures.within.1)
