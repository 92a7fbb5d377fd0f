-- The arguments so far are UTF-8.
use Rattle.std.proofs.Common.{◌≡◌, drop}
use Rattle.std.specs.List.{find}
use Rattle.crew_launch.specs.Reasons.{is_no_text}
use Rattle.crew_launch.proofs.starting.first_no_text.Given as goal

abbrev pub invariant-loop-argument : goal.invariant-loop-argument
invariant-loop-argument l = find is_no_text (drop l.argument-index l.arguments) ≡ find is_no_text l.arguments
