use Rattle.std.proofs.Common.{◌-◌, length}
use Rattle.shell_case.proofs.Flags.{Known}
use Rattle.shell_case.proofs.places.places.Given as goal

abbrev pub invariant-parts : goal.invariant-parts
invariant-parts l = Known l.pieces l.text l.flags.items l.at

abbrev pub decreases-parts : goal.decreases-parts
decreases-parts l = length l.pieces - l.at
