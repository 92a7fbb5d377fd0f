use Rattle.port_passes.specs.Rewritten.{IsPass}
use Rattle.port_passes.proofs.joints.pass_list.Given as goal

abbrev pub invariant-loop-at : goal.invariant-loop-at
invariant-loop-at l = IsPass l.idioms l.text l.pass.at l.pass.out.items
