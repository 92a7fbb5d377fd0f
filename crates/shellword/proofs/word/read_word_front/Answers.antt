use Rattle.shellword.specs.Gives.{Fails}
use Rattle.shellword.specs.Scan.{word_front_of}
use Rattle.shellword.specs.Word.{IsWordFront}
use Rattle.fallible.proofs.Clauses.{found, only}
use Rattle.shellword.proofs.Words.{word_front-read, read-word_front}
use Rattle.shellword.specs.WordFaults.{IsBadFront}
use Rattle.shellword.proofs.Laws.{refusal_of}
use Rattle.shellword.proofs.WordFaults.{front-bad}
use Rattle.shellword.proofs.word.read_word_front.Goals as goal

pub returns-clause-sound : goal.returns-clause-sound
returns-clause-sound c =
    found Fails (λ r. (r.0, r.1)) c.read_front_word.result (word_front_of c.args.text.now) c.read_front_word.ensures.exact (λ r. IsWordFront c.args.text.now r.0 r.1) (read-word_front c.args.text.now)

pub returns-clause-complete : goal.returns-clause-complete
returns-clause-complete c = λ parts n h. only Fails (λ r. (r.0, r.1)) c.read_front_word.result (word_front_of c.args.text.now) c.read_front_word.ensures.exact (parts, n) (word_front-read c.args.text.now parts n h)

pub returns-clause-error_sound : goal.returns-clause-error_sound
returns-clause-error_sound c = refusal_of (IsBadFront c.args.text.now) (λ r. (r.0, r.1)) c.read_front_word.result (word_front_of c.args.text.now) (front-bad c.args.text.now) c.read_front_word.ensures.exact
