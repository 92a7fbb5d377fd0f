use Rattle.std.proofs.Common.{subst, sym}
use Rattle.engine_frame.specs.Needed.{script_in}
use Rattle.plan.specs.Walk.{DoesWhat}
use Rattle.proberun.proofs.WholeLemmas.{any_err}
use Rattle.engine.specs.Configured.{ended}
use Rattle.engine.proofs.configuring.run_ready.Goals as goal

pub returns-in_err-artifacts-clause-begun : goal.returns-in_err-artifacts-clause-begun
returns-in_err-artifacts-clause-begun g c = any_err _ _ (ended (c.in_ok-end.ensures.meaning _ (subst (λ p. DoesWhat p (script_in c.args.needs.now)) (sym c.plan-plan.ensures.plan) c.plan-plan.ensures.does)))

pub returns-in_err-messages-clause-begun : goal.returns-in_err-messages-clause-begun
returns-in_err-messages-clause-begun g c = any_err _ _ (ended (c.in_ok-end.ensures.meaning _ (subst (λ p. DoesWhat p (script_in c.args.needs.now)) (sym c.plan-plan.ensures.plan) c.plan-plan.ensures.does)))

pub returns-in_err-log-clause-begun : goal.returns-in_err-log-clause-begun
returns-in_err-log-clause-begun g c = any_err _ _ (ended (c.in_ok-end.ensures.meaning _ (subst (λ p. DoesWhat p (script_in c.args.needs.now)) (sym c.plan-plan.ensures.plan) c.plan-plan.ensures.does)))
