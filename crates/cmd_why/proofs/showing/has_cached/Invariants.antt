use Rattle.std.proofs.Common.{◌≡◌, map, drop}
use Rattle.cmd_why.specs.Shown as specs
use Rattle.cmd_why.specs.Views.{check_seen}
use Rattle.cmd_why.proofs.showing.has_cached.Given as goal

abbrev pub invariant-loop-check : goal.invariant-loop-check
invariant-loop-check l = specs.has_cached (map check_seen (drop l.check-index l.checks)) ≡ specs.has_cached (map check_seen l.checks)
