use Rattle.shell_bare.specs.Gives.{Fails}
use Rattle.shell_bare.specs.Reading.{statements_of}
use Rattle.shell_bare.specs.Statements.{IsBareText}
use Rattle.shell_bare.proofs.Laws.{text-read, read-text}
use Rattle.fallible.proofs.Clauses.{found, only}
use Rattle.shell_bare.proofs.Refusals.{refused_by}
use Rattle.shell_bare.proofs.statements.read_statements.Goals as goal

pub returns-clause-sound : goal.returns-clause-sound
returns-clause-sound c = found Fails (λ a. a) c.read_whole.result (statements_of c.args.text.now) c.read_whole.ensures.exact (IsBareText c.args.text.now) (read-text c.args.text.now)

pub returns-clause-complete : goal.returns-clause-complete
returns-clause-complete c = λ list h. only Fails (λ a. a) c.read_whole.result (statements_of c.args.text.now) c.read_whole.ensures.exact list (text-read c.args.text.now list h)

pub returns-clause-error_sound : goal.returns-clause-error_sound
returns-clause-error_sound c = refused_by c.args.text.now (λ a. a) c.read_whole.result c.read_whole.ensures.exact
