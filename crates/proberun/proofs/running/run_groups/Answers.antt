use Rattle.std.proofs.Common.{subst, length, arith}
use Rattle.run_machine.specs.declared.machine.Turn.TheVariants as turn
use Rattle.run_machine.specs.Standing.{Turned}
use Rattle.proberun.specs.Serving.{Served}
use Rattle.proberun.proofs.WholeLemmas.{begins, serves, ends, all_landed, at_end, no_failure_yet}
use Rattle.proberun.proofs.running.run_groups.Goals as goal

pub groups-init : goal.groups-init
groups-init g c =
    let r = begins (length c.args.slots.now) _ _ _ _ c.requires.first c.requires.may_run.0 in
    record {
      progress = r.progress;
      fits = r.fits;
      moving = r.moving;
      free = c.requires.free;
      attempts = omega (arith, r.asks, c.requires.may_run.1, c.bound.ensures);
    }

pub groups-preserved : goal.groups-preserved
groups-preserved g c =
    let t : Turned c.args.plan.now turn.Ask c.groups.machine c.advance.new.self = subst (λ x. Turned c.args.plan.now x c.groups.machine c.advance.new.self) c.in-Ask.is c.in_ok-advance.ensures.turned in
    let served = subst (λ n. Served n (g.C.Crew.account c.groups.crew) c.advance.new.self.jobs c.serve.new.machine.replies (g.C.Crew.account c.serve.new.crew)) c.groups.auto.slots c.serve.ensures.served in
    let r = serves (length c.args.slots.now) _ _ _ _ _ c.groups.machine c.advance.new.self c.serve.new.machine t c.groups.invariant.fits c.groups.invariant.progress served c.serve.ensures.unchanged in
    record {
      progress = r.progress;
      fits = r.fits;
      moving = r.moving;
      free = c.serve.ensures.free;
      attempts = omega (arith, r.asks, t.ahead, served.attempts, c.groups.invariant.attempts);
    }

pub serve-requires-clause-failures : goal.serve-requires-clause-failures
serve-requires-clause-failures g c =
    let t : Turned c.args.plan.now turn.Ask c.groups.machine c.advance.new.self = subst (λ x. Turned c.args.plan.now x c.groups.machine c.advance.new.self) c.in-Ask.is c.in_ok-advance.ensures.turned in
    let failures = no_failure_yet (length c.args.slots.now) c.args.plan.now _ _ _ c.groups.machine c.advance.new.self t c.groups.invariant.progress in
    omega (arith, failures, t.few, c.requires.may_run.2)

pub returns-in_default : goal.returns-in_default
returns-in_default g c = record {
  idle = c.groups.invariant.progress.idle;
  landed = all_landed _ _ _ _ _ _ _ c.groups.invariant.progress;
  ended = at_end _ _ _ _ c.in_default.not-Ask c.in_ok-advance.ensures.turned;
  begun = tt;
  ran = λ end leaves. ends (length c.args.slots.now) _ _ _ _ _ _ _ end c.in_default.not-Ask c.in_ok-advance.ensures.turned c.groups.invariant.moving c.groups.invariant.progress leaves;
}
