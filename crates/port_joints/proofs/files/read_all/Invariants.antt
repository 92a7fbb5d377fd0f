use Rattle.port_joints.specs.Files.{IsTurned}
use Rattle.port_joints.proofs.files.read_all.Given as goal

abbrev pub invariant-loop-at : goal.invariant-loop-at
invariant-loop-at l = IsTurned l.text l.turning.at l.turning.out.items
