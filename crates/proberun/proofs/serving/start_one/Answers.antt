use Rattle.std.proofs.Common.{◌+◌, ap, sym, subst, arith}
use Rattle.std.proofs.lemmas.Option.{slice_get_within}
use Rattle.crew_trait.specs.declared.reply.Reply.TheVariants.{StartRefused}
use Rattle.proberun.specs.Serving.{Serving, open_count}
use Rattle.proberun.proofs.ServingLemmas.{serve_start, serve_refused, awaits_start, open_count-set}
use Rattle.proberun.proofs.serving.start_one.Goals as goal

pub give-requires : goal.give-requires
give-requires g c = awaits_start _ _ _ _ _ _ c.requires.serving.1 (slice_get_within _ _ _ c.requires.next)

pub returns-in-Ok-clause-serving : goal.returns-in-Ok-clause-serving
returns-in-Ok-clause-serving g c = λ before h.
    serve_start before _ _ _ _ _ _ _ _ h (slice_get_within _ _ _ c.requires.next) c.requires.free c.requires.least c.requires.next c.in-Ok.ensures.number c.in-Ok.ensures.taken c.in-Ok.ensures.taken_count

pub returns-in-Err-clause-serving : goal.returns-in-Err-clause-serving
returns-in-Err-clause-serving g c = λ before h.
    subst (λ r. Serving before c.args.machine.now.jobs (c.args.started + 1) r c.args.slots.now (g.C.Crew.account c.start.new.self)) (sym (ap (λ m. m.replies) c.give.ensures))
    (serve_refused before _ _ _ _ _ _ h (slice_get_within _ _ _ c.requires.next) c.in-Err.ensures.number c.in-Err.ensures.refused c.in-Err.ensures.refused_count)

pub returns-in-Err-clause-fewer : goal.returns-in-Err-clause-fewer
returns-in-Err-clause-fewer g c =
    let e = ap open_count (ap (λ m. m.replies) c.give.ensures) in
    omega (arith, e, open_count-set c.args.machine.now.replies c.args.started StartRefused (awaits_start _ _ _ _ _ _ c.requires.serving.1 (slice_get_within _ _ _ c.requires.next)))
