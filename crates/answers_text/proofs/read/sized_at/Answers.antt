use Rattle.std.proofs.Common.{◌++◌, length}
use Rattle.answers_text.proofs.Taken.{sized_is, sized_begins, sized_found, sized_long, sized_fits}
use Rattle.answers_text.proofs.read.sized_at.Goals as goal

pub returns-in_default-clause-complete : goal.returns-in_default-clause-complete
returns-in_default-clause-complete c = λ t more fits is. c.in_default.ensures.complete (length t) (t ++ more) fits (sized_begins c.args.text.now t more is)

pub returns-then-size-rest-clause-complete : goal.returns-then-size-rest-clause-complete
returns-then-size-rest-clause-complete c = λ t more fits is.
    let both = c.in-Some.ensures.complete (length t) (t ++ more) fits (sized_begins c.args.text.now t more is) in
    sized_long c.in-Some.rest.now t more c.in-Some.size c.if-size-rest.true both.0 both.1

pub returns-clause-sound : goal.returns-clause-sound
returns-clause-sound c =
    sized_is c.args.text.now c.in-Some.rest.now c.split_at.result.0.now c.split_at.result.1.now c.in-Some.size c.in-Some.ensures.sound c.if-size-rest.false c.split_at.ensures.front c.split_at.ensures.back

pub returns-clause-complete : goal.returns-clause-complete
returns-clause-complete c = λ t more fits is.
    let both = c.in-Some.ensures.complete (length t) (t ++ more) fits (sized_begins c.args.text.now t more is) in
    sized_found c.in-Some.rest.now c.split_at.result.0.now c.split_at.result.1.now t more c.in-Some.size both.0 both.1 c.split_at.ensures.front c.split_at.ensures.back

pub returns-clause-fits : goal.returns-clause-fits
returns-clause-fits c = sized_fits c.in-Some.rest.now c.split_at.result.0.now c.in-Some.size c.if-size-rest.false c.split_at.ensures.front c.in-Some.ensures.fits
