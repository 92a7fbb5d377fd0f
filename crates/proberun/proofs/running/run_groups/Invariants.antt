use Rattle.std.proofs.Common.{◌+◌, ◌^◌, ◌≤◌, length}
use Rattle.meaning.specs.Play.{whole}
use Rattle.plan.specs.Walk.{empty_mind, walk}
use Rattle.run_machine.specs.Standing.{run_left, asks_left, Fits}
use Rattle.run_test.specs.Waits.{all_replies}
use Rattle.proberun.specs.Serving.{AllFree}
use Rattle.proberun.specs.Progress.{Progress, Moving}
use Rattle.proberun.proofs.running.run_groups.Given as goal

abbrev pub invariant-groups : goal.invariant-groups
invariant-groups g l = record {
  progress : Progress (length l.fn.slots) (whole (walk l.plan 0 empty_mind l.fn.machine.state)) (run_left l.plan l.machine) l.machine.before (all_replies l.machine.replies) (g.C.Crew.account l.fn.crew) (g.C.Crew.account l.crew);
  fits : Fits l.plan l.machine;
  moving : Moving l.machine.phase;
  free : AllFree l.slots;
  attempts : (g.C.Crew.account l.crew).attempts + asks_left l.plan l.machine ≤ 2 ^ 62;
}

abbrev pub decreases-groups : goal.decreases-groups
decreases-groups g l = asks_left l.plan l.machine
