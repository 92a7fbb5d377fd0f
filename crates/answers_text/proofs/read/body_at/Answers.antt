use Rattle.std.proofs.Common.{◌++◌}
use Rattle.answers_text.specs.Texts.{number, sized}
use Rattle.answers_text.proofs.Apart.{made, same_record}
use Rattle.answers_text.proofs.Taken.{body_is, body_begins}
use Rattle.answers_text.proofs.read.body_at.Goals as goal

pub returns-in_default-clause-complete : goal.returns-in_default-clause-complete
returns-in_default-clause-complete c = λ it more fits is.
    c.in_default.ensures.complete it.number (sized it.job ++ (number it.status ++ (sized it.text ++ more))) fits.number_fits (body_begins c.args.text.now it more is)

pub returns-in_default-sized_at-clause-complete : goal.returns-in_default-sized_at-clause-complete
returns-in_default-sized_at-clause-complete c = λ it more fits is.
    let first = c.in-Some.ensures.complete it.number (sized it.job ++ (number it.status ++ (sized it.text ++ more))) fits.number_fits (body_begins c.args.text.now it more is) in
    c.in_default-sized_at.ensures.complete it.job (number it.status ++ (sized it.text ++ more)) fits.job_fits first.1

pub returns-in_default-status_at-clause-complete : goal.returns-in_default-status_at-clause-complete
returns-in_default-status_at-clause-complete c = λ it more fits is.
    let first = c.in-Some.ensures.complete it.number (sized it.job ++ (number it.status ++ (sized it.text ++ more))) fits.number_fits (body_begins c.args.text.now it more is) in
    let second = c.in-Some-sized_at.ensures.complete it.job (number it.status ++ (sized it.text ++ more)) fits.job_fits first.1 in
    c.in_default-status_at.ensures.complete it.status (sized it.text ++ more) fits.status_fits second.1

pub returns-in_default-sized_at-2-clause-complete : goal.returns-in_default-sized_at-2-clause-complete
returns-in_default-sized_at-2-clause-complete c = λ it more fits is.
    let first = c.in-Some.ensures.complete it.number (sized it.job ++ (number it.status ++ (sized it.text ++ more))) fits.number_fits (body_begins c.args.text.now it more is) in
    let second = c.in-Some-sized_at.ensures.complete it.job (number it.status ++ (sized it.text ++ more)) fits.job_fits first.1 in
    let third = c.in-Some-status_at.ensures.complete it.status (sized it.text ++ more) fits.status_fits second.1 in
    c.in_default-sized_at-2.ensures.complete it.text more fits.text_fits third.1

pub returns-clause-sound : goal.returns-clause-sound
returns-clause-sound c =
    body_is c.args.text.now c.in-Some.after_number.now c.in-Some-sized_at.after_job.now c.in-Some-status_at.after_status.now c.in-Some-sized_at-2.rest.now
    c.in-Some.number c.in-Some-sized_at.job.now c.in-Some-status_at.status c.in-Some-sized_at-2.said.now
    c.in-Some.ensures.sound c.in-Some-sized_at.ensures.sound c.in-Some-status_at.ensures.sound c.in-Some-sized_at-2.ensures.sound

pub returns-clause-complete : goal.returns-clause-complete
returns-clause-complete c = λ it more fits is.
    let first = c.in-Some.ensures.complete it.number (sized it.job ++ (number it.status ++ (sized it.text ++ more))) fits.number_fits (body_begins c.args.text.now it more is) in
    let second = c.in-Some-sized_at.ensures.complete it.job (number it.status ++ (sized it.text ++ more)) fits.job_fits first.1 in
    let third = c.in-Some-status_at.ensures.complete it.status (sized it.text ++ more) fits.status_fits second.1 in
    let fourth = c.in-Some-sized_at-2.ensures.complete it.text more fits.text_fits third.1 in
    (same_record (made c.in-Some.number c.in-Some-sized_at.job.now c.in-Some-status_at.status c.in-Some-sized_at-2.said.now) it first.0 second.0 third.0 fourth.0, fourth.1)

pub returns-clause-writable : goal.returns-clause-writable
returns-clause-writable c = record {
  number_fits = c.in-Some.ensures.fits;
  job_fits = c.in-Some-sized_at.ensures.fits;
  status_fits = c.in-Some-status_at.ensures.fits;
  text_fits = c.in-Some-sized_at-2.ensures.fits;
}
