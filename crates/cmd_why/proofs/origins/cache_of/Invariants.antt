use Rattle.std.proofs.Common.{◌≡◌, None, drop}
use Rattle.std.specs.Prelude.{option_map}
use Rattle.cmd_why.specs.Origins as specs
use Rattle.cmd_why.proofs.origins.cache_of.Given as goal

abbrev pub invariant-loop-argument : goal.invariant-loop-argument
invariant-loop-argument l =
    specs.cache_from l.awaited (option_map (λ name. name.now) l.cache) (drop l.argument-index l.args) ≡ specs.cache_from None None l.args
