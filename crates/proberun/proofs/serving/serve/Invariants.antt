use Rattle.std.proofs.Common.{◌≡◌, ◌+◌, ◌-◌, length, drop}
use Rattle.proberun.specs.Serving.{Serving, open_count}
use Rattle.proberun.proofs.serving.serve.Given as goal

abbrev pub invariant-turns : goal.invariant-turns
invariant-turns g l = record {
  serving : Serving (g.C.Crew.account l.fn.crew) l.fn.machine.jobs l.started l.machine.replies l.slots (g.C.Crew.account l.crew);
  same : l.machine ≡ record l.fn.machine { replies = l.machine.replies };
  queue : l.jobs ≡ drop l.started l.fn.machine.jobs;
}

abbrev pub decreases-turns : goal.decreases-turns
decreases-turns g l = length l.fn.machine.jobs - l.started + open_count l.machine.replies
