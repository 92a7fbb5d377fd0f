use Rattle.port_passes.specs.Rewritten.{IsPass}
use Rattle.port_passes.proofs.definitions.pass_spots.Given as goal

abbrev pub invariant-loop-i : goal.invariant-loop-i
invariant-loop-i l = IsPass l.idioms l.text l.pass.at l.pass.out.items
