use Rattle.meaning.specs.Forms.{attempt_of_try}
use Rattle.run_forms.proofs.Places.{made_there}
use Rattle.run_forms.proofs.attempts.attempt_at.Goals as goal

pub returns : goal.returns
returns c =
    let course = c.args.course.now in
    let st = c.args.store.now in
    made_there (attempt_of_try course.form.entry course.given st.vars st.defs) course.form.tries c.args.place c.in_ok-from.field-0 c.in-Some.from c.in_ok-attempt.attempt c.in-Some.is c.in_ok-from.ensures.at c.in_ok-from.ensures.room
    c.in_ok-attempt.ensures
