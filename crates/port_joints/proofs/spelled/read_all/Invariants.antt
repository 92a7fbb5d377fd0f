use Rattle.port_joints.specs.Spelled.{IsSpelled}
use Rattle.port_joints.proofs.spelled.read_all.Given as goal

abbrev pub invariant-loop-at : goal.invariant-loop-at
invariant-loop-at l = IsSpelled l.text l.spelling.at l.spelling.out.items
