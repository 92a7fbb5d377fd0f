use Rattle.shellword.specs.Gives.{Fails}
use Rattle.shellword.specs.Test.{IsTest}
use Rattle.shellword.specs.Joining.{test_of}
use Rattle.fallible.proofs.Clauses.{found, only}
use Rattle.shellword.proofs.TestReading.{test-read, read-test}
use Rattle.shellword.proofs.test.read_test.Goals as goal

pub returns-clause-sound : goal.returns-clause-sound
returns-clause-sound c = found Fails (λ t. t) c.read_whole.result (test_of c.args.text.now) c.read_whole.ensures.exact (IsTest c.args.text.now) (read-test c.args.text.now)

pub returns-clause-complete : goal.returns-clause-complete
returns-clause-complete c = λ test h. only Fails (λ t. t) c.read_whole.result (test_of c.args.text.now) c.read_whole.ensures.exact test (test-read c.args.text.now test h)
