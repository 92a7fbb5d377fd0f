use Rattle.shellword.specs.Gives.{Fails}
use Rattle.shellword.specs.Pattern.{ArePatterns}
use Rattle.shellword.specs.Listing.{patterns_of}
use Rattle.fallible.proofs.Clauses.{found, only}
use Rattle.shellword.proofs.PatternReading.{patterns-read, read-patterns}
use Rattle.shellword.proofs.pattern.read_patterns.Goals as goal

pub returns-clause-sound : goal.returns-clause-sound
returns-clause-sound c = found Fails (λ v. v.items) c.read_whole.result (patterns_of c.args.text.now) c.read_whole.ensures.exact (ArePatterns c.args.text.now) (read-patterns c.args.text.now)

pub returns-clause-complete : goal.returns-clause-complete
returns-clause-complete c = λ patterns h. only Fails (λ v. v.items) c.read_whole.result (patterns_of c.args.text.now) c.read_whole.ensures.exact patterns (patterns-read c.args.text.now patterns h)
