use Rattle.std.proofs.Common.{◌≡◌, drop}
use Rattle.ac_parts.specs.Shapes.{is_end_in}
use Rattle.ac_parts.proofs.shapes.is_end_in.Given as goal

abbrev pub invariant-loop-end : goal.invariant-loop-end
invariant-loop-end l = is_end_in (drop l.end-index l.ends) l.of l.at ≡ is_end_in l.ends l.of l.at
