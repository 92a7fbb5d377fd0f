use Rattle.port_passes.specs.Rewritten.{IsPass}
use Rattle.port_passes.proofs.brackets.pass_arguments.Given as goal

abbrev pub invariant-loop-index : goal.invariant-loop-index
invariant-loop-index l = IsPass l.idioms l.text l.pass.at l.pass.out.items
