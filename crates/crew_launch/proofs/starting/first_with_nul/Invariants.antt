-- The arguments so far have no NUL.
use Rattle.std.proofs.Common.{◌≡◌, drop}
use Rattle.std.specs.List.{find}
use Rattle.crew_launch.specs.Reasons.{has_nul}
use Rattle.crew_launch.proofs.starting.first_with_nul.Given as goal

abbrev pub invariant-loop-argument : goal.invariant-loop-argument
invariant-loop-argument l = find has_nul (drop l.argument-index l.arguments) ≡ find has_nul l.arguments
