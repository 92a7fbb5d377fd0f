use Rattle.answers_text.proofs.Taken.{number_found}
use Rattle.answers_text.proofs.read.number_at.Goals as goal

pub returns-clause-complete : goal.returns-clause-complete
returns-clause-complete c = λ n more fits is.
    number_found c.args.text.now c.in-Some.front.now c.in-Some.rest.now c.from_be_bytes.result n more c.in-Some.ensures.cases.0 c.in-Some.ensures.cases.1 c.from_be_bytes.ensures fits is
