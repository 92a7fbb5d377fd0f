use Rattle.std.proofs.Common.{◌≡◌, replicate}
use Rattle.std.specs.Prelude.{None}
use Rattle.crew_journal.proofs.flight.no_flights.Given as goal

abbrev pub invariant-loop : goal.invariant-loop
invariant-loop l = l.flights.items ≡ replicate l.counter None
