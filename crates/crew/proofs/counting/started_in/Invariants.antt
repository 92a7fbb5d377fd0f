-- The starts so far are counted, and they are no more than the events.
use Rattle.std.proofs.Common.{◌≡◌, ◌≤◌, take}
use Rattle.crew.specs.Counting.{started_in}
use Rattle.crew.proofs.counting.started_in.Given as goal

abbrev pub invariant-loop-event : goal.invariant-loop-event
invariant-loop-event l = (l.count ≡ started_in (take l.event-index l.events)) × (l.count ≤ l.event-index)
