use Rattle.shellword.specs.Gives.{Fails}
use Rattle.shellword.specs.Scan.{here_of}
use Rattle.shellword.specs.Word.{IsHere}
use Rattle.fallible.proofs.Clauses.{found, only}
use Rattle.shellword.proofs.Words.{here-read, read-here}
use Rattle.shellword.specs.WordFaults.{IsBadHere}
use Rattle.shellword.proofs.Laws.{refusal_of}
use Rattle.shellword.proofs.WordFaults.{here-bad}
use Rattle.shellword.proofs.here.read_here.Goals as goal

pub returns-clause-sound : goal.returns-clause-sound
returns-clause-sound c = found Fails (λ h. h) c.read_parts.result (here_of c.args.text.now) c.read_parts.ensures.exact (IsHere c.args.text.now) (read-here c.args.text.now)

pub returns-clause-complete : goal.returns-clause-complete
returns-clause-complete c = λ parts h. only Fails (λ h. h) c.read_parts.result (here_of c.args.text.now) c.read_parts.ensures.exact parts (here-read c.args.text.now parts h)

pub returns-clause-error_sound : goal.returns-clause-error_sound
returns-clause-error_sound c = refusal_of (IsBadHere c.args.text.now) (λ h. h) c.read_parts.result (here_of c.args.text.now) (here-bad c.args.text.now) c.read_parts.ensures.exact
