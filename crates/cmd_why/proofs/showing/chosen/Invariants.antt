use Rattle.std.proofs.Common.{◌≡◌, map, take}
use Rattle.cmd_why.specs.Shown as specs
use Rattle.cmd_why.specs.Views.{check_seen}
use Rattle.cmd_why.proofs.showing.chosen.Given as goal

abbrev pub invariant-loop-check : goal.invariant-loop-check
invariant-loop-check l = map check_seen l.chosen.items ≡ specs.chosen l.word (map check_seen (take l.check-index l.checks))
