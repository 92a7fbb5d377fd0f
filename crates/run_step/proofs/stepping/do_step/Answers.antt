use Rattle.std.proofs.Common.{Ok, refl, subst, sym}
use Rattle.std.specs.Prelude.{None}
use Rattle.meaning.specs.Meaning.{check_prog, has_value}
use Rattle.run_test.specs.Starts.{program_kind}
use Rattle.run_step.specs.Runs.{Act, looks_run, own_run, round, subject_run}
use Rattle.run_step.proofs.Steps.{continued_ok, looks_leads, opened}
use Rattle.run_step.proofs.stepping.do_step.Goals as goal

pub returns-in-Do-clause-acts : goal.returns-in-Do-clause-acts
returns-in-Do-clause-acts c =
    let about = c.args.about.now in let tests = c.args.tests.now in let st = c.args.store.now in let now = c.execute.new in
    subst (λ s. Act s c.execute.result about now.about tests tests st now.store) (sym c.in-Do.is)
    (continued_ok c.execute.result now.about tests now.store (own_run c.in-Do.effect.now about st) _ (λ next. refl) c.execute.ensures.leads)

pub returns-in-Subject-clause-acts : goal.returns-in-Subject-clause-acts
returns-in-Subject-clause-acts c =
    let about = c.args.about.now in let tests = c.args.tests.now in let st = c.args.store.now in let now = c.begin.new in
    subst (λ s. Act s c.begin.result about now.about tests tests st now.store) (sym c.in-Subject.is)
    (continued_ok c.begin.result now.about tests now.store (subject_run c.in-Subject.subject.now st) _ (λ next. refl) c.begin.ensures.leads)

pub returns-in-Round-clause-acts : goal.returns-in-Round-clause-acts
returns-in-Round-clause-acts c =
    let about = c.args.about.now in let tests = c.args.tests.now in let st = c.args.store.now in let now = c.begin_round.new in
    let q = c.in-Round in
    subst (λ s. Act s c.begin_round.result about now.about tests tests st now.store) (sym q.is)
    (continued_ok c.begin_round.result now.about tests now.store (round q.sought q.entry.now q.includes.now st) _ (λ next. refl) c.begin_round.ensures.leads)

pub returns-in_ok-flow-in-Look-clause-acts : goal.returns-in_ok-flow-in-Look-clause-acts
returns-in_ok-flow-in-Look-clause-acts c =
    let about = c.args.about.now in let tests = c.args.tests.now in let st = c.args.store.now in let now = c.start.new in
    let q = c.in-Look in let name = q.variable.now in let program = q.program.now in
    subst (λ s. Act s (Ok c.in_ok-flow-in-Look.flow) about now.about tests tests st now.store) (sym q.is)
    (continued_ok (Ok c.in_ok-flow-in-Look.flow) now.about tests now.store (looks_run name program q.always about st) _ (λ next. refl)
    (opened c.in_ok-flow-in-Look.flow (program_kind (check_prog name program program None) (has_value st name) st) c.in_ok-opening-in-Look.opening about now.about st now.store _
    (λ tests next. looks_leads name program q.always c.has_value.result c.is_wanted.result about st tests next c.is_wanted.ensures c.has_value.ensures c.if-not-is_wanted.false)
    c.in_ok-opening-in-Look.ensures c.in_ok-flow-in-Look.ensures.leads))
