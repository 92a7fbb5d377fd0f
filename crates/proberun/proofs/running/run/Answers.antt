use Rattle.std.proofs.Common.{length, ap, ◌∙◌, subst, IfOk}
use Rattle.meaning.specs.Meaning.{meaning}
use Rattle.meaning.specs.State.{opened}
use Rattle.meaning.specs.Play.{whole}
use Rattle.plan.specs.Walk.{empty_mind, walk}
use Rattle.proberun.specs.Progress.{WasRun}
use Rattle.proberun.specs.Ran.{Ran}
use Rattle.proberun.proofs.WholeLemmas.{not_started, none_started, any_err, was_run, as_meant}
use Rattle.proberun.proofs.running.run.Goals as goal

pub returns-clause-ran : goal.returns-clause-ran
returns-clause-ran g c =
    subst (λ n. IfOk c.run_in.result (λ end. Ran n (whole (walk c.args.plan.now 0 empty_mind (opened c.args.vars))) (g.C.Crew.account c.args.crew.now) (g.C.Crew.account c.run_in.new.crew) end))
    (ap length c.as_mut_slice.ensures.value ∙ c.in_ok-slots.ensures.0) c.run_in.ensures.ran

pub returns-in_err-slots-clause-begun : goal.returns-in_err-slots-clause-begun
returns-in_err-slots-clause-begun g c =
    any_err _ c.from_residual.result (not_started c.args.window (whole (walk c.args.plan.now 0 empty_mind (opened c.args.vars))) (g.C.Crew.account c.args.crew.now) c.requires.may_run.0)

pub returns-clause-meaning : goal.returns-clause-meaning
returns-clause-meaning g c = λ script does.
    as_meant c.args.window c.args.plan.now script (opened c.args.vars) _ _ c.run_in.result does
    (subst (λ n. WasRun n (whole (walk c.args.plan.now 0 empty_mind (opened c.args.vars))) (g.C.Crew.account c.args.crew.now) (g.C.Crew.account c.run_in.new.crew) c.run_in.result)
    (ap length c.as_mut_slice.ensures.value ∙ c.in_ok-slots.ensures.0) (was_run _ _ _ _ _ c.run_in.ensures.ran c.run_in.ensures.begun))

pub returns-in_err-slots-clause-meaning : goal.returns-in_err-slots-clause-meaning
returns-in_err-slots-clause-meaning g c = λ script does.
    none_started c.args.window (whole (meaning script (opened c.args.vars))) (g.C.Crew.account c.args.crew.now) c.from_residual.result c.from_residual.ensures.0 c.requires.may_run.0
