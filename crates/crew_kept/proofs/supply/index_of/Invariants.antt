use Rattle.std.proofs.Common.{drop, length, ◌≤◌}
use Rattle.crew_kept.specs.Index.{IsIndexFrom}
use Rattle.crew_kept.proofs.supply.index_of.Given as goal

abbrev pub invariant-records : goal.invariant-records
invariant-records l = IsIndexFrom l.left (drop l.left l.fn.records) l.places × (l.left ≤ length l.fn.records)

abbrev pub decreases-records : goal.decreases-records
decreases-records l = l.left
