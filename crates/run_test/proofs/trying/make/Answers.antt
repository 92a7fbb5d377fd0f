use Rattle.std.proofs.Common.{subst}
use Rattle.run_test.specs.Attempts.{IsAttempt}
use Rattle.run_test.proofs.Flows.{led}
use Rattle.run_test.proofs.Follows.{attempt_follows, attempts_end, place_before, stop_follows}
use Rattle.run_test.proofs.trying.make.Goals as goal

pub returns-in_default-clause-leads : goal.returns-in_default-clause-leads
returns-in_default-clause-leads c = λ tests next.
    attempts_end tests c.args.trial (next 0) c.args.about.now c.end_otherwise.new.about c.args.store.now c.end_otherwise.new.store
    (subst (IsAttempt c.args.trial.course c.args.store.now c.args.trial.next) c.in_default.is c.requires) c.in_ok-end_otherwise.ensures.scope c.in_ok-end_otherwise.ensures.state

pub returns-in_default-job-clause-leads : goal.returns-in_default-job-clause-leads
returns-in_default-job-clause-leads c =
    stop_follows c.stop_inside.result c.args.trial c.in-Some.attempt c.args.about.now c.args.store.now c.stop_inside.new.store
    (subst (IsAttempt c.args.trial.course c.args.store.now c.args.trial.next) c.in-Some.is c.requires) c.in_default-job.is c.stop_inside.ensures.stops c.stop_inside.ensures.breaks

pub ask-requires-clause-place : goal.ask-requires-clause-place
ask-requires-clause-place c =
    place_before c.args.trial.course c.args.store.now c.args.trial.next c.in-Some.attempt (subst (IsAttempt c.args.trial.course c.args.store.now c.args.trial.next) c.in-Some.is c.requires)

pub returns-clause-leads : goal.returns-clause-leads
returns-clause-leads c =
    let at = subst (IsAttempt c.args.trial.course c.args.store.now c.args.trial.next) c.in-Some.is c.requires in
    led c.in_ok-flow.flow c.args.about.now c.args.store.now _ _
    (λ tests next. attempt_follows tests c.args.trial c.in-Some.attempt c.in-Some-job.job (next 0) c.args.about.now c.args.store.now at c.in-Some-job.is)
    (c.in_ok-flow.ensures.leads c.args.about.now c.args.store.now)
