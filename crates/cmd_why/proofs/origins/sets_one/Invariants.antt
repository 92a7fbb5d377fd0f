use Rattle.std.proofs.Common.{◌≡◌, drop}
use Rattle.cmd_why.specs.Origins as specs
use Rattle.cmd_why.proofs.origins.sets_one.Given as goal

abbrev pub invariant-loop-name : goal.invariant-loop-name
invariant-loop-name l = specs.sets_one (drop l.name-index l.names) l.line ≡ specs.sets_one l.names l.line
