-- The command has its program and the arguments so far.
use Rattle.std.proofs.Common.{◌≡◌, take}
use Rattle.std.specs.Process.{command_args, command_program}
use Rattle.crew_launch.proofs.starting.put_arguments.Given as goal

abbrev pub invariant-loop-argument : goal.invariant-loop-argument
invariant-loop-argument l = (command_program l.command ≡ command_program l.initial.command) × (command_args l.command ≡ take l.argument-index l.arguments)
