use Rattle.std.proofs.Common.{◌≡◌, ◌+◌, ◌∙◌, ap, sym, subst, refl, ⊎_elim, arith}
use Rattle.std.specs.Prelude.{slice_get}
use Rattle.run_machine.specs.Standing.{Standing}
use Rattle.proberun.specs.Serving.{Serving, Served}
use Rattle.proberun.proofs.GroupLemmas.{serving_begins, serving_ends}
use Rattle.proberun.proofs.ServingLemmas.{next_job, all_attempted, room_to_end}
use Rattle.proberun.proofs.serving.serve.Goals as goal

pub turns-init : goal.turns-init
turns-init g c = record {
  serving = serving_begins _ _ _ _ c.requires.fresh c.requires.idle c.requires.free;
  same = refl;
  queue = c.requires.jobs;
}

pub start_one-requires-clause-next : goal.start_one-requires-clause-next
start_one-requires-clause-next g c =
    ap (λ m. slice_get m.jobs c.turns.started) c.turns.invariant.same ∙ (next_job c.args.machine.now.jobs c.next_start.new.jobs c.turns.started c.in-Some.job (sym c.turns.invariant.queue ∙ c.in-Some.ensures.job)).0

pub turns-preserved-in-Some : goal.turns-preserved-in-Some
turns-preserved-in-Some g c =
    let before = g.C.Crew.account c.args.crew.now in
    let jobs : c.turns.machine.jobs ≡ c.args.machine.now.jobs = ap (λ m. m.jobs) c.turns.invariant.same in
    record {
      serving = subst (λ js. Serving before js (c.turns.started + 1) c.start_one.new.machine.replies c.start_one.new.slots (g.C.Crew.account c.start_one.new.crew)) jobs
          (c.start_one.ensures.serving before (subst (λ js. Serving before js c.turns.started c.turns.machine.replies c.turns.slots (g.C.Crew.account c.turns.crew)) (sym jobs) c.turns.invariant.serving));
      same = c.start_one.ensures.unchanged ∙ ap {A = Standing} (λ m. record m { replies = c.start_one.new.machine.replies }) c.turns.invariant.same;
      queue = (next_job c.args.machine.now.jobs c.next_start.new.jobs c.turns.started c.in-Some.job (sym c.turns.invariant.queue ∙ c.in-Some.ensures.job)).1;
    }

pub returns-then-is_idle-clause-served : goal.returns-then-is_idle-clause-served
returns-then-is_idle-clause-served g c =
    let started = c.turns.started in
    let jobs = c.args.machine.now.jobs in
    subst (λ n. Served n (g.C.Crew.account c.args.crew.now) jobs c.turns.machine.replies (g.C.Crew.account c.turns.crew)) c.turns.auto.slots
    (serving_ends _ _ _ _ _ _ c.turns.invariant.serving (c.if-is_idle.ensures.idle refl) (omega (arith, c.turns.auto.slots, c.requires.window.0))
    (λ lt. ⊎_elim (λ held. held) (λ none. let all = all_attempted jobs started (sym c.turns.invariant.queue ∙ none) in absurd (omega arith)) c.in_default.ensures.no_start))

pub end_one-requires-clause-failures : goal.end_one-requires-clause-failures
end_one-requires-clause-failures g c = room_to_end _ _ _ _ _ _ c.turns.invariant.serving (c.if-is_idle.ensures.held refl) c.requires.failures
