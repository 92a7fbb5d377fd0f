use Rattle.shellword.specs.Gives.{Fails}
use Rattle.shellword.specs.Scan.{word_of}
use Rattle.shellword.specs.Word.{IsWord}
use Rattle.fallible.proofs.Clauses.{found, only}
use Rattle.shellword.proofs.Words.{word-read, read-word}
use Rattle.shellword.specs.WordFaults.{IsBadWord}
use Rattle.shellword.proofs.Laws.{refusal_of}
use Rattle.shellword.proofs.WordFaults.{word-bad}
use Rattle.shellword.proofs.word.read_word.Goals as goal

pub returns-clause-sound : goal.returns-clause-sound
returns-clause-sound c = found Fails (λ w. w) c.read_whole.result (word_of c.args.text.now) c.read_whole.ensures.exact (IsWord c.args.text.now) (read-word c.args.text.now)

pub returns-clause-complete : goal.returns-clause-complete
returns-clause-complete c = λ parts h. only Fails (λ w. w) c.read_whole.result (word_of c.args.text.now) c.read_whole.ensures.exact parts (word-read c.args.text.now parts h)

pub returns-clause-error_sound : goal.returns-clause-error_sound
returns-clause-error_sound c = refusal_of (IsBadWord c.args.text.now) (λ w. w) c.read_whole.result (word_of c.args.text.now) (word-bad c.args.text.now) c.read_whole.ensures.exact
