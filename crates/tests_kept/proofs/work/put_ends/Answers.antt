use Rattle.std.proofs.Common.{◌≡◌, ◌+◌, ◌-◌, ◌<◌, arith}
use Rattle.test_crews.proofs.FlightLemmas.{flies_start, flies_same, flies_some, flies_end, free_after, free_same, failure_most}
use Rattle.tests_kept.proofs.work.put_ends.Goals.{in-Ok-start, in-Err}
use Rattle.tests_kept.proofs.work.put_ends.Goals as goal

pub starts-preserved : goal.starts-preserved
starts-preserved g c =
    let slot = c.starts.slot in
    let before = (g.C.Crew.account c.starts.crew).events in
    let after = (g.C.Crew.account c.start.new.self).events in
    elim c.match-start.branch [
      | in-Ok-start w ↦
          record {
            flies = flies_start c.starts.flying c.match-start.flying before after slot c.in-Ok.one _ c.starts.invariant.flies (c.starts.invariant.free slot (omega arith)) w.in-Ok-start.ensures.taken w.flying-is;
            few = omega (arith, w.flying-is, c.starts.invariant.few);
            free = free_after before after slot c.in-Ok.one _ c.starts.invariant.free w.in-Ok-start.ensures.taken;
            attempts = omega (arith, c.start.ensures.number, c.starts.invariant.attempts);
            failures = omega (arith, w.in-Ok-start.ensures.taken_count, c.starts.invariant.failures);
          }
      | in-Err w ↦
          record {
            flies = flies_same c.starts.flying c.match-start.flying before after c.starts.invariant.flies w.in-Err.ensures.refused w.flying-is;
            few = omega (arith, w.flying-is, c.starts.invariant.few);
            free = free_same before after slot c.starts.invariant.free w.in-Err.ensures.refused;
            attempts = omega (arith, c.start.ensures.number, c.starts.invariant.attempts);
            failures = omega (arith, w.in-Err.ensures.refused_count, c.starts.invariant.failures);
          }
    ]

pub next-slot-requires-clause-flying : goal.next-slot-requires-clause-flying
next-slot-requires-clause-flying g c =
    flies_some c.ends.invariant.left (g.C.Crew.account c.ends.crew).events c.ends.invariant.flies (omega (arith, c.ends.invariant.count, c.ends-test.true))

pub ends-preserved : goal.ends-preserved
ends-preserved g c =
    let left = c.ends.invariant.left in
    let some : 0 < left = omega (arith, c.ends.invariant.count, c.ends-test.true) in
    let one : left ≡ (left - 1) + 1 = omega (arith, some) in
    record {
      left = left - 1;
      flies = flies_end left (left - 1) (g.C.Crew.account c.ends.crew).events (g.C.Crew.account c.next-slot.new.self).events c.next-slot.result.0 c.next-slot.result.1 _ c.ends.invariant.flies one c.next-slot.ensures.was_busy c.next-slot.ensures.ended;
      count = omega (arith, c.ends.invariant.count, some);
      failures = omega (arith, c.ends.invariant.failures, c.next-slot.ensures.count, failure_most c.next-slot.result.1);
    }
