use Rattle.std.proofs.Common.{ap, sym, subst, refl, None, arith}
use Rattle.std.specs.Prelude.{slice_set}
use Rattle.proberun.specs.Serving.{Serving, open_count}
use Rattle.proberun.proofs.ServingLemmas.{serve_end, awaits, held_at, not_none, open_count-set}
use Rattle.proberun.proofs.serving.end_one.Goals as goal

pub give-requires : goal.give-requires
give-requires g c =
    awaits _ _ _ _ _ _ _ _ c.requires.serving.2 (held_at _ _ _ _ _ _ _ _ c.requires.serving.2 c.next-slot.ensures.was_busy c.in-Some.is)

pub returns-in-Some-clause-serving : goal.returns-in-Some-clause-serving
returns-in-Some-clause-serving g c = λ before started h may.
    subst (λ r. Serving before c.args.machine.now.jobs started r (slice_set c.args.slots.now c.next-slot.result.0 None) (g.C.Crew.account c.next-slot.new.self)) (sym (ap (λ m. m.replies) c.give.ensures))
    (serve_end before _ _ _ _ _ _ _ _ _ _ h (held_at _ _ _ _ _ _ _ _ h c.next-slot.ensures.was_busy c.in-Some.is) c.next-slot.ensures.number c.next-slot.ensures.ended refl c.next-slot.ensures.count may)

pub returns-in_default-clause-serving : goal.returns-in_default-clause-serving
returns-in_default-clause-serving g c = λ before started h may. absurd (not_none _ _ _ _ _ _ _ h c.next-slot.ensures.was_busy c.in_default.is)

pub returns-in-Some-clause-fewer : goal.returns-in-Some-clause-fewer
returns-in-Some-clause-fewer g c =
    let e = ap open_count (ap (λ m. m.replies) c.give.ensures) in
    omega (arith, e, open_count-set c.args.machine.now.replies c.in-Some.job c.next-slot.result.1 (awaits _ _ _ _ _ _ _ _ c.requires.serving.2 (held_at _ _ _ _ _ _ _ _ c.requires.serving.2 c.next-slot.ensures.was_busy c.in-Some.is)))

pub returns-in_default-clause-fewer : goal.returns-in_default-clause-fewer
returns-in_default-clause-fewer g c = absurd (not_none _ _ _ _ _ _ _ c.requires.serving.2 c.next-slot.ensures.was_busy c.in_default.is)
