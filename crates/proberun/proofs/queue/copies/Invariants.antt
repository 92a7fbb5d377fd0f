use Rattle.std.proofs.Common.{◌≡◌, take}
use Rattle.proberun.proofs.queue.copies.Given as goal

abbrev pub invariant-loop-job : goal.invariant-loop-job
invariant-loop-job l = l.all.items ≡ take l.job-index l.jobs
