use Rattle.std.proofs.Common.{◌≡◌, drop}
use Rattle.cmd_why.specs.Origins as specs
use Rattle.cmd_why.proofs.origins.is_one_of.Given as goal

abbrev pub invariant-loop-known : goal.invariant-loop-known
invariant-loop-known l = specs.is_one_of l.name (drop l.known-index l.names) ≡ specs.is_one_of l.name l.names
