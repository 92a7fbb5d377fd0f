use Rattle.std.proofs.Common.{◌≡◌, drop}
use Rattle.crew_refusals.specs.Known.{cause_of}
use Rattle.crew_refusals.proofs.list.line_at.Given as goal

abbrev pub invariant-loop-entry : goal.invariant-loop-entry
invariant-loop-entry l = cause_of l.child (drop l.entry-index l.entries) ≡ cause_of l.child l.entries
