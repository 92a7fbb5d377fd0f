use Rattle.std.proofs.Common.{◌-◌, length}
use Rattle.shell_case.proofs.Steps.{Going}
use Rattle.shell_case.proofs.parts.match_parts.Given as goal

abbrev pub invariant-groups : goal.invariant-groups
invariant-groups l = Going l.pieces l.text l.piece l.at

abbrev pub decreases-groups : goal.decreases-groups
decreases-groups l = length l.pieces - l.piece
