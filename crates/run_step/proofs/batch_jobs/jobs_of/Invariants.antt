use Rattle.std.proofs.Common.{◌≡◌, ◌+◌, ◌++◌, drop}
use Rattle.run_step.specs.Waiting.{jobs_of}
use Rattle.run_step.proofs.batch_jobs.jobs_of.Given as goal

abbrev pub invariant-loop-i : goal.invariant-loop-i
invariant-loop-i l =
    l.jobs.items ++ jobs_of l.includes (l.i + 1) (drop l.i l.entries) l.store ≡ jobs_of l.includes 1 l.entries l.store
