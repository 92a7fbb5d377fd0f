use Rattle.std.proofs.Common.{◌≡◌, ◌∷◌, [], ap, rules}
use Rattle.std.specs.Process.{command_args, command_program}
use Rattle.crew_launch.specs.Launch.{Spawned}
use Rattle.crew_launch.proofs.Calls.{adds_then}
use Rattle.crew_launch.proofs.starting.run.Goals as goal

pub returns-in-Ok-clause-taken : goal.returns-in-Ok-clause-taken
returns-in-Ok-clause-taken g c =
    let command = c.put_arguments.new.command in
    let words : command_program command ∷ command_args command ≡ command_program c.args.command.now ∷ c.args.arguments.now = search rules in
    adds_then c.spawn.result _ _ _ _ _ _ c.in-Ok.ensures.written (ap (λ all. Spawned all ∷ []) words) c.spawn.ensures.taken
