use Rattle.std.proofs.Common.{◌≡◌, drop}
use Rattle.run_step.specs.Waiting.{is_named}
use Rattle.run_step.proofs.batch_jobs.is_named.Given as goal

abbrev pub invariant-loop-entry : goal.invariant-loop-entry
invariant-loop-entry l = is_named l.name (drop l.entry-index l.entries) ≡ is_named l.name l.entries
