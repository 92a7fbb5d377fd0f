use Rattle.std.proofs.Common.{length, ◌-◌, map}
use Rattle.plan.specs.Walk.{instruction_of}
use Rattle.run_machine.proofs.Goes.{Comes}
use Rattle.run_machine.proofs.machine.Machine.go_on.Given as goal

abbrev pub invariant-steps : goal.invariant-steps
invariant-steps l = Comes (map instruction_of l.steps) l.fn.self l.self

abbrev pub decreases-steps : goal.decreases-steps
decreases-steps l = length l.steps - l.self.place
