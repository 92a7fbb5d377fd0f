use Rattle.std.proofs.Common.{◌≡◌, None, drop}
use Rattle.std.specs.Prelude.{option_map}
use Rattle.cmd_why.specs.Origins as specs
use Rattle.cmd_why.proofs.origins.setter_of.Given as goal

abbrev pub invariant-loop-argument : goal.invariant-loop-argument
invariant-loop-argument l =
    specs.setter_from l.names l.awaited (option_map (λ argument. argument.now) l.setter) (drop l.argument-index l.args)
    ≡ specs.setter_from l.names None None l.args
