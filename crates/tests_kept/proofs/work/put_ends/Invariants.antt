use Rattle.std.proofs.Common.{◌≡◌, ℕ, ◌+◌, ◌≤◌, false}
use Rattle.crew_trait.specs.Events.{busy}
use Rattle.test_crews.proofs.FlightLemmas.{Flies}
use Rattle.tests_kept.proofs.work.put_ends.Given as goal

abbrev pub invariant-starts : goal.invariant-starts
invariant-starts g l =
    record {
      flies : Flies l.flying (g.C.Crew.account l.crew).events;
      few : l.flying ≤ l.slot;
      free : (s : ℕ) → l.slot ≤ s → busy s (g.C.Crew.account l.crew).events ≡ false;
      attempts : (g.C.Crew.account l.crew).attempts ≤ l.slot;
      failures : (g.C.Crew.account l.crew).failures ≤ l.slot;
    }

abbrev pub invariant-ends : goal.invariant-ends
invariant-ends g l =
    record {
      left : ℕ;
      flies : Flies left (g.C.Crew.account l.crew).events;
      count : left + l.counter ≡ l.flying;
      failures : (g.C.Crew.account l.crew).failures ≤ 16 + l.counter;
    }
